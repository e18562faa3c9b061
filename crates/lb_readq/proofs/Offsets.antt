-- What reading a whole statement answers, as the public call says it: of any language of statements and any limit.
use Rattle.std.proofs.Common.{inl, inr, ◌≡◌, ℕ, List, [], ◌∷◌, ◌++◌, Option, Some, None, Result, Ok, Err, unwrap_or, sym, ap, subst}
use Rattle.std.specs.Prelude.{IfOk, IfErr}
use Rattle.lb_stmt.specs.declared.write.Stmt.{Stmt}
use Rattle.lb_tok.specs.declared.token.Token.{Token}
use Rattle.lb_tok.specs.declared.token.Tokens.{Tokens}
use Rattle.lb_tok.specs.declared.lex.ReadFault.{ReadFault}
use Rattle.lb_tok.specs.declared.lex.ReadFault.TheVariants.{Syntax}
use Rattle.lb_tok.specs.Form.{Lang}
use Rattle.lb_readt.specs.Readers.{Why, bad, deep, Answer, got, stop}
use Rattle.lb_tok.specs.Limit.{walk}
use Rattle.lb_readq.specs.Judging.{Refused, Judged}
use Rattle.lb_tok.specs.Refusals.{Spells, NoneThrough, TooDeep}
use Rattle.lb_tok.specs.Refusals.{StandsAt, GoesNoFurther, IsRefusedAt, IsSpelledWithin, FaultSays}
use Rattle.lb_readq.proofs.Whole.{nil}

-- the tokens that are left are the last ones
pub left_over : (P : Lang Stmt) (d : ℕ) (ts : List Token) (c : Why) (rest : List Token) (a : Answer Stmt) → Judged P d ts a → a ≡ stop c rest → (front : List Token) × (ts ≡ front ++ rest)
left_over P d ts c rest a j e = let r : Refused P d ts c rest = subst (λ (b : Answer Stmt). Judged P d ts b) e j in (r.front, r.whole)

pub is_read : (P : Lang Stmt) (d : ℕ) (found : Tokens) (s : Stmt) (a : Answer Stmt) → Judged P d found.tokens a → a ≡ got s [] → found.stop ≡ None → IsSpelledWithin P d found s
is_read P d found s a j e h =
    let r : Judged P d found.tokens (got s []) = subst (λ (b : Answer Stmt). Judged P d found.tokens b) e j in
    (h, r.1, r.2)

-- a byte begins no token after tokens that spell a statement
pub is_cut : (P : Lang Stmt) (d : ℕ) (found : Tokens) (s : Stmt) (at : ℕ) (a : Answer Stmt) → Judged P d found.tokens a → a ≡ got s [] → found.stop ≡ Some at → IsRefusedAt P d found at
is_cut P d found s at a j e h =
    let r : Judged P d found.tokens (got s []) = subst (λ (b : Answer Stmt). Judged P d found.tokens b) e j in
    record {
      front = found.tokens;
      rest = [];
      whole = sym (nil found.tokens);
      more = [];
      tree = s;
      goes_on = subst (λ (u : List Token). Spells P u s) (sym (nil found.tokens)) r.1;
      fits = (d, r.2);
      stands = sym (ap (λ (o : Option ℕ). unwrap_or o found.length) h);
      because = inl (at, h);
    }

pub if_read : (P : Lang Stmt) (d : ℕ) (found : Tokens) (s : Stmt) (a : Answer Stmt) → Judged P d found.tokens a → a ≡ got s [] → (r : Result Stmt ReadFault)
    → IfOk r (λ v. (v ≡ s) × (found.stop ≡ None)) → IfOk r (λ v. IsSpelledWithin P d found v)
if_read P d found s a j e (Ok v) h = subst (λ (u : Stmt). IsSpelledWithin P d found u) (sym h.0) (is_read P d found s a j e h.1)
if_read P d found s a j e (Err x) h = h

pub if_cut : (P : Lang Stmt) (d : ℕ) (found : Tokens) (s : Stmt) (a : Answer Stmt) → Judged P d found.tokens a → a ≡ got s [] → (r : Result Stmt ReadFault)
    → IfErr r (λ x. (at : ℕ) × (found.stop ≡ Some at) × (x ≡ Syntax at)) → IfErr r (λ x. FaultSays P d found x)
if_cut P d found s a j e (Ok v) h = h
if_cut P d found s a j e (Err x) h = subst (λ (y : ReadFault). FaultSays P d found y) (sym h.2) (is_cut P d found s h.0 a j e h.1)

bad_so : (P : Lang Stmt) (d : ℕ) (found : Tokens) (front rest : List Token) → NoneThrough P front rest → GoesNoFurther P d found front rest
bad_so P d found front [] n = inr n
bad_so P d found front (t ∷ rest) n = inl n

deep_so : (P : Lang Stmt) (d : ℕ) (found : Tokens) (front rest : List Token) → TooDeep d front rest → GoesNoFurther P d found front rest
deep_so P d found front [] n = absurd n
deep_so P d found front (t ∷ rest) n = inr n

deep_fits : (d : ℕ) (front rest : List Token) → TooDeep d front rest → (e : ℕ) × (walk front d ≡ Some e)
deep_fits d front [] n = absurd n
deep_fits d front (t ∷ rest) n = (0, n.0)

pub goes_wrong : (P : Lang Stmt) (d : ℕ) (found : Tokens) (rest : List Token) (at : ℕ) (a : Answer Stmt) → Judged P d found.tokens a → a ≡ stop bad rest
    → ((front : List Token) → found.tokens ≡ front ++ rest → StandsAt found front rest at) → IsRefusedAt P d found at
goes_wrong P d found rest at a j e stands =
    let r : Refused P d found.tokens bad rest = subst (λ (b : Answer Stmt). Judged P d found.tokens b) e j in
    record {
      front = r.front;
      rest = rest;
      whole = r.whole;
      more = r.more;
      tree = r.tree;
      goes_on = r.goes_on;
      fits = r.because.0;
      stands = stands r.front r.whole;
      because = bad_so P d found r.front rest r.because.1;
    }

pub goes_deep : (P : Lang Stmt) (d : ℕ) (found : Tokens) (rest : List Token) (at : ℕ) (a : Answer Stmt) → Judged P d found.tokens a → a ≡ stop deep rest
    → ((front : List Token) → found.tokens ≡ front ++ rest → StandsAt found front rest at) → IsRefusedAt P d found at
goes_deep P d found rest at a j e stands =
    let r : Refused P d found.tokens deep rest = subst (λ (b : Answer Stmt). Judged P d found.tokens b) e j in
    record {
      front = r.front;
      rest = rest;
      whole = r.whole;
      more = r.more;
      tree = r.tree;
      goes_on = r.goes_on;
      fits = deep_fits d r.front rest r.because;
      stands = stands r.front r.whole;
      because = deep_so P d found r.front rest r.because;
    }
