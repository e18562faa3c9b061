-- From a reader that is exact to the public calls: whole statements, and the two halves of an offset.
use Rattle.std.proofs.Common.{Bool, true, false, inl, inr, ◌≡◌, ℕ, zero, suc, ◌+◌, ◌≤◌, List, [], ◌∷◌, ◌++◌, length, Option, Some, None, refl, sym, ap, subst, ◌∙◌, arith}
use Rattle.lb_stmt.specs.declared.write.Stmt.{Stmt}
use Rattle.lb_tok.specs.declared.token.Token.{Token}
use Rattle.lb_tok.specs.Kinds.{Kinds, has, openers, closers}
use Rattle.lb_tok.specs.Form.{Lang}
use Rattle.lb_tok.specs.Grammar.{level}
use Rattle.lb_readt.specs.Readers.{bad, deep, Answer, got, stop, Reader, bind, seq, heads}
use Rattle.lb_readq.specs.Queries.{ended}
use Rattle.lb_tok.specs.Limit.{passed, walk_on, walk}
use Rattle.lb_readq.specs.Judging.{Judged, Unique, Complete}
use Rattle.lb_tok.specs.Refusals.{Spells}
use Rattle.lb_readt.proofs.Joined.{Ev, StopSo, SoundAt, Meets, Exact, walk-append}

-- a reader for each depth that is exact for the language
pub record Whole' (P : Lang Stmt) (f : ℕ → Reader Stmt) (F E : Kinds) : Type 0 where
  pub exact : (d : ℕ) → Exact level d d (f d) P false F E

pub nil : (a : List Token) → a ++ [] ≡ a
nil [] = refl
nil (t ∷ a) = ap (λ (u : List Token). t ∷ u) (nil a)

only : {P : Lang Stmt} {f : ℕ → Reader Stmt} {F E : Kinds} → Whole' P f F E → (d : ℕ) (ts : List Token) (q : Stmt) → Spells P ts q → Meets (f d ts) q []
only {P} {f} {F} {E} w d ts q s = subst (λ (u : List Token). Meets (f d u) q []) (nil ts) ((w.exact d).only s.0 ts q [] s.1 refl)

-- of a statement reading gives no tokens left, and stops only at a bracket
not_left : {P : Lang Stmt} {f : ℕ → Reader Stmt} {F E : Kinds} → Whole' P f F E → (d : ℕ) (ts : List Token) (q p : Stmt) (t : Token) (r : List Token) → Spells P ts q → f d ts ≡ got p (t ∷ r) → ⊥
not_left {P} {f} {F} {E} w d ts q p t r s e = go (only w d ts q s)
  where
    go : Meets (f d ts) q [] → ⊥
    go (inl h) = let k : ◌≡◌ {A = Answer Stmt} (got p (t ∷ r)) (got q []) = sym e ∙ h in absurd cc
    go (inr h) = let k : ◌≡◌ {A = Answer Stmt} (got p (t ∷ r)) (stop deep h.0) = sym e ∙ h.1 in absurd cc

not_bad : {P : Lang Stmt} {f : ℕ → Reader Stmt} {F E : Kinds} → Whole' P f F E → (d : ℕ) (ts : List Token) (q : Stmt) (r : List Token) → Spells P ts q → f d ts ≡ stop bad r → ⊥
not_bad {P} {f} {F} {E} w d ts q r s e = go (only w d ts q s)
  where
    go : Meets (f d ts) q [] → ⊥
    go (inl h) = let k : ◌≡◌ {A = Answer Stmt} (stop bad r) (got q []) = sym e ∙ h in absurd cc
    go (inr h) = let k : ◌≡◌ {A = Answer Stmt} (stop bad r) (stop deep h.0) = sym e ∙ h.1 in absurd cc

ever : (P : Lang Stmt) (ts : List Token) (s : Stmt) → Ev level P ts s → Spells P ts s
ever P ts s e = (e.0 + 0, e.1 0)

judged : {P : Lang Stmt} {f : ℕ → Reader Stmt} {F E : Kinds} → Whole' P f F E → (d : ℕ) (ts : List Token) (a : Answer Stmt) → f d ts ≡ a → SoundAt level d d (f d) P ts a → Judged P d ts (bind a ended)
judged {P} {f} w d ts (got q []) e s =
    let k : s.front ≡ ts = sym (s.whole ∙ nil s.front) in
    (refl, subst (λ (u : List Token). Spells P u q) k (ever P s.front q s.spelled), subst (λ (u : List Token). walk u d ≡ Some d) k s.even)
judged {P} {f} w d ts (got q (t ∷ rest)) e s =
    record {
      front = s.front;
      whole = s.whole;
      more = [];
      tree = q;
      goes_on = subst (λ (u : List Token). Spells P u q) (sym (nil s.front)) (ever P s.front q s.spelled);
      because = ((d, s.even), λ r p z. not_left w d (s.front ++ t ∷ r) p q t r z (s.same (t ∷ r) refl));
    }
judged {P} {f} w d ts (stop bad []) e s =
    record {
      front = s.front;
      whole = s.whole;
      more = s.more;
      tree = s.tree;
      goes_on = ever P (s.front ++ s.more) s.tree s.spelled;
      because = (s.at, λ p z. not_bad w d ts p [] (subst (λ (u : List Token). Spells P u p) (sym (s.whole ∙ nil s.front)) z) e);
    }
judged {P} {f} w d ts (stop bad (t ∷ rest)) e s =
    record {
      front = s.front;
      whole = s.whole;
      more = s.more;
      tree = s.tree;
      goes_on = ever P (s.front ++ s.more) s.tree s.spelled;
      because = (s.at, λ r p z. not_bad w d (s.front ++ t ∷ r) p (t ∷ r) z (s.same (t ∷ r) refl));
    }
judged {P} {f} w d ts (stop deep []) e s = absurd s.at
judged {P} {f} w d ts (stop deep (t ∷ rest)) e s = record { front = s.front; whole = s.whole; more = s.more; tree = s.tree; goes_on = ever P (s.front ++ s.more) s.tree s.spelled; because = s.at }

pub judges : {P : Lang Stmt} {f : ℕ → Reader Stmt} {F E : Kinds} → Whole' P f F E → (d : ℕ) (ts : List Token) → Judged P d ts (seq (f d) ended ts)
judges {P} {f} w d ts = judged w d ts (f d ts) refl ((w.exact d).sound ts)

-- a statement that keeps the limit is read

not_deep : {P : Lang Stmt} {f : Reader Stmt} (d e : ℕ) (ts rest : List Token) → walk ts d ≡ Some e → StopSo level d f P ts deep rest → ⊥
unfolding walk
not_deep d e ts [] h s = s.at
not_deep d e ts (t ∷ rest) h s =
    let w : walk ts d ≡ walk (t ∷ rest) 0 = ap (λ (u : List Token). walk u d) s.whole ∙ walk-append s.front (t ∷ rest) d 0 s.at.0 in
    let k : walk (t ∷ rest) 0 ≡ None = ap (λ (b : Bool). walk_on (passed b (has closers t.kind) 0) (walk rest)) s.at.1 in
    let z : ◌≡◌ {A = Option ℕ} (Some e) None = sym h ∙ w ∙ k in absurd cc

found : {P : Lang Stmt} {f : ℕ → Reader Stmt} {F E : Kinds} → Whole' P f F E → (d e : ℕ) (ts : List Token) (q : Stmt) → walk ts d ≡ Some e → Meets (f d ts) q [] → f d ts ≡ got q []
found w d e ts q h (inl p) = p
found {P} {f} {F} {E} w d e ts q h (inr p) = absurd (not_deep d e ts p.0 h (subst (λ (a : Answer Stmt). SoundAt level d d (f d) P ts a) p.1 ((w.exact d).sound ts)))

-- with room for all, each statement is read

enough : (ts : List Token) (d : ℕ) → length ts ≤ d → (e : ℕ) × (walk ts d ≡ Some e)
unfolding walk
enough [] d le = (d, refl)
enough (t ∷ ts) zero le = absurd (omega arith)
enough (t ∷ ts) (suc d) le = go (has openers t.kind) (has closers t.kind) (enough ts)
  where
    go : (o c : Bool) → ((i : ℕ) → length ts ≤ i → (e : ℕ) × (walk ts i ≡ Some e)) → (e : ℕ) × (walk_on (passed o c (suc d)) (walk ts) ≡ Some e)
    go true c f = f d (omega arith)
    go false true f = f (suc (suc d)) (omega arith)
    go false false f = f (suc d) (omega arith)

same_tree : (q p : Stmt) → ◌≡◌ {A = Answer Stmt} (got q []) (got p []) → q ≡ p
same_tree q p e = cc

pub unique : {P : Lang Stmt} {f : ℕ → Reader Stmt} {F E : Kinds} → Whole' P f F E → Unique P
unique w ts q p s z =
    let k = enough ts (length ts) (omega arith) in
    same_tree q p (sym (found w (length ts) k.0 ts q k.1 (only w (length ts) ts q s)) ∙ found w (length ts) k.0 ts p k.1 (only w (length ts) ts p z))

pub complete : {P : Lang Stmt} {f : ℕ → Reader Stmt} {F E : Kinds} → Whole' P f F E → Complete P (λ d. seq (f d) ended)
complete {P} {f} {F} {E} w d e ts q s h = ap (λ (a : Answer Stmt). bind a ended) (found w d e ts q h (only w d ts q s))

pub starts : {P : Lang Stmt} {f : ℕ → Reader Stmt} {F E : Kinds} → Whole' P f F E → (ts : List Token) (s : Stmt) → Spells P ts s → heads F ts ≡ true
starts {P} {f} {F} {E} w [] s p = absurd (none ((w.exact 0).tongue.first p.0 [] s p.1))
  where
    none : false ≡ true → ⊥
    none e = cc
starts {P} {f} {F} {E} w (t ∷ ts) s p = (w.exact 0).tongue.first p.0 (t ∷ ts) s p.1
