-- Expressions, spelled by canonical pieces.
use Rattle.std.proofs.Common.{Bool, true, false, cond, ◌≡◌, ℕ, suc, List, [], ◌∷◌, ◌++◌, map, Option, Some, None, refl, sym, ap, subst, ◌∙◌, append_assoc, arith}
use Rattle.std.specs.Prelude.{nat_le}
use Rattle.std.specs.List.{flat_map}
use Rattle.std.specs.Option.{option_and_then}
use Rattle.std.proofs.lemmas.Bool.Decides.{nat_tests}
use Rattle.lb_tree.specs.declared.query.Aggregate.{Aggregate}
use Rattle.lb_tree.specs.declared.query.Aggregate.TheVariants as aggregates
use Rattle.lb_tree.specs.declared.query.Function.{Function}
use Rattle.lb_tree.specs.declared.query.Function.TheVariants as functions
use Rattle.lb_tree.specs.declared.query.Atom.TheVariants as atoms
use Rattle.lb_tree.specs.declared.query.Expr.{Expr}
use Rattle.lb_tree.specs.declared.query.Expr.TheVariants as exprs
use Rattle.lb_tree.specs.declared.query.Arm.{Arm}
use Rattle.lb_tree.specs.declared.query.Choice.{Choice}
use Rattle.lb_tree.specs.declared.query.Signed.{Signed}
use Rattle.lb_tok.specs.declared.kind.Kind.{Kind}
use Rattle.lb_tok.specs.declared.kind.Kind.TheVariants as kinds
use Rattle.lb_tok.specs.declared.call.Call.{Call}
use Rattle.lb_tok.specs.declared.call.Call.TheVariants as calls
use Rattle.lb_tok.specs.declared.token.Token.{Token}
use Rattle.lb_tok.specs.declared.token.Content.TheVariants as contents
use Rattle.lb_tok.specs.Kinds.{has, names, spelling}
use Rattle.lb_tok.specs.Lexing.{words}
use Rattle.lb_tok.specs.Words.{name_in, call_of}
use Rattle.lb_tok.specs.Form.{Below, Many, After, Made}
use Rattle.lb_tok.specs.Spacing.{Piece, mark, keyword, opening}
use Rattle.lb_tok.specs.QueryPieces.{listed, clause, option_of, Phrase, enclosed, at_least, sign_kind, signed, sum_pieces, else_pieces, case_pieces, aggregate_front, function_kind, expr_phrase, expr_pieces, arm_pieces, choice_pieces, signed_part}
use Rattle.lb_tok.specs.Grammar.{IsDayLiteral, sums, concats, products, InExpr, IsArm, IsChoice, IsElse, IsCase, IsCounted, IsParted, IsFirstOf, IsShown, IsArguments, IsFunction, IsCall, IsToday, IsLiteral, IsFact, IsTerm, IsConcat, IsSign, IsSigned, IsExpr}
use Rattle.lb_tok.proofs.Opens.{flat_fused, expr_phrase-Atom, expr_phrase-Sum, expr_phrase-Concat, expr_phrase-Product, expr_phrase-Case, expr_phrase-Match, expr_phrase-Aggregate, expr_phrase-Substr, expr_phrase-Apply, expr_phrase-Coalesce, arm_pieces-out, choice_pieces-out, signed_part-out}
use Rattle.lb_tok.proofs.Signs.{signs}
use Rattle.lb_tok.proofs.Fitting.{opening_run}
use Rattle.lb_tok.proofs.SpelledPieces.{Got, split, follow, unmake, meant, which, inside, Spells, seq, made, word, after, means, left, right, bracket, regroup, many, many_after, listing, lone, optional}
use Rattle.lb_tok.proofs.Contents.{Formed, Operand, Turns}
use Rattle.lb_tok.proofs.SpelledWords.{column-turn, text-turn, day-turn, number-turn, verified-turn, two_texts-turn}

-- ---- levels

no_less : (r n : ℕ) (x y : Phrase) → x ≡ y → nat_le r y.rank ≡ true → nat_le r x.rank ≡ false → ⊥
no_less r n x y h e f = let z : ◌≡◌ {A = Bool} true false = sym e ∙ ap (λ (p : Phrase). nat_le r p.rank) (sym h) ∙ f in absurd cc

no_more : (r : ℕ) (x y : Phrase) → x ≡ y → nat_le r y.rank ≡ false → nat_le r x.rank ≡ true → ⊥
no_more r x y h e f = let z : ◌≡◌ {A = Bool} false true = sym e ∙ ap (λ (p : Phrase). nat_le r p.rank) (sym h) ∙ f in absurd cc

abbrev phrase : List Piece → ℕ → Phrase
phrase ps r = record { pieces = ps; rank = r }

from_fact : {t : Below} (e : Expr) (ps : List Piece) → expr_phrase e ≡ phrase ps 3 → Spells IsFact t ps e → Operand 3 t e
from_fact {t} e ps h p =
    let q : Spells IsFact t (expr_pieces e) e = subst (λ (x : Phrase). Spells IsFact t x.pieces e) (sym h) p in
    record {
      formed = record { fact = λ _. q; term = λ _. lone products q; joined = λ _. lone concats (lone products q); whole = lone sums (lone concats (lone products q)) };
      inner = λ n. absurd (no_less 3 0 (expr_phrase e) (phrase ps 3) h refl n);
    }

from_term : {t : Below} (e : Expr) (ps : List Piece) → expr_phrase e ≡ phrase ps 2 → Spells IsTerm t ps e → Operand 2 t e
from_term {t} e ps h p =
    let q : Spells IsTerm t (expr_pieces e) e = subst (λ (x : Phrase). Spells IsTerm t x.pieces e) (sym h) p in
    record {
      formed = record { fact = λ n. absurd (no_more 3 (expr_phrase e) (phrase ps 2) h refl n); term = λ _. q; joined = λ _. lone concats q; whole = lone sums (lone concats q) };
      inner = λ n. absurd (no_less 2 0 (expr_phrase e) (phrase ps 2) h refl n);
    }

from_concat : {t : Below} (e : Expr) (ps : List Piece) → expr_phrase e ≡ phrase ps 1 → Spells IsConcat t ps e → Operand 1 t e
from_concat {t} e ps h p =
    let q : Spells IsConcat t (expr_pieces e) e = subst (λ (x : Phrase). Spells IsConcat t x.pieces e) (sym h) p in
    record {
      formed = record { fact = λ n. absurd (no_more 3 (expr_phrase e) (phrase ps 1) h refl n); term = λ n. absurd (no_more 2 (expr_phrase e) (phrase ps 1) h refl n); joined = λ _. q; whole = lone sums q };
      inner = λ n. absurd (no_less 1 0 (expr_phrase e) (phrase ps 1) h refl n);
    }

from_sum : {t : Below} (e : Expr) (ps : List Piece) → expr_phrase e ≡ phrase ps 0 → Spells IsExpr t ps e → Formed t e
from_sum {t} e ps h p =
    record {
      fact = λ n. absurd (no_more 3 (expr_phrase e) (phrase ps 0) h refl n);
      term = λ n. absurd (no_more 2 (expr_phrase e) (phrase ps 0) h refl n);
      joined = λ n. absurd (no_more 1 (expr_phrase e) (phrase ps 0) h refl n);
      whole = subst (λ (x : Phrase). Spells IsExpr t x.pieces e) (sym h) p;
    }

looser : (r n : ℕ) → nat_le r n ≡ false → nat_le (suc r) n ≡ false
looser r n h = grind (arith, nat_tests)

weaken : {t : Below} {e : Expr} (r : ℕ) → Operand (suc r) t e → Operand r t e
weaken {t} {e} r p = record { formed = p.formed; inner = λ n. p.inner (looser r (expr_phrase e).rank n) }

at_fact : {t : Below} {e : Expr} → Operand 3 t e → Spells IsFact t (at_least 3 (expr_phrase e)) e
unfolding has
at_fact {t} {e} p = go (nat_le 3 (expr_phrase e).rank) refl
  where
    go : (b : Bool) → nat_le 3 (expr_phrase e).rank ≡ b → Spells IsFact t (enclosed b (expr_pieces e)) e
    go true h = p.formed.fact h
    go false h = left (bracket kinds.Open kinds.Close refl refl (p.inner h))

at_term : {t : Below} {e : Expr} → Operand 2 t e → Spells IsTerm t (at_least 2 (expr_phrase e)) e
unfolding has
at_term {t} {e} p = go (nat_le 2 (expr_phrase e).rank) refl
  where
    go : (b : Bool) → nat_le 2 (expr_phrase e).rank ≡ b → Spells IsTerm t (enclosed b (expr_pieces e)) e
    go true h = p.formed.term h
    go false h = lone products (left (bracket kinds.Open kinds.Close refl refl (p.inner h)))

at_concat : {t : Below} {e : Expr} → Operand 1 t e → Spells IsConcat t (at_least 1 (expr_phrase e)) e
unfolding has
at_concat {t} {e} p = go (nat_le 1 (expr_phrase e).rank) refl
  where
    go : (b : Bool) → nat_le 1 (expr_phrase e).rank ≡ b → Spells IsConcat t (enclosed b (expr_pieces e)) e
    go true h = p.formed.joined h
    go false h = lone concats (lone products (left (bracket kinds.Open kinds.Close refl refl (p.inner h))))

-- ---- CASE

inner : {s t : Below} → Turns s t → (ts : List Token) (e : Expr) → Got InExpr s ts e → Spells InExpr t (expr_pieces e) e
inner u ts e g = (u.expr ts e g).inner

arm-turn : {s t : Below} → Turns s t → (ts : List Token) (x : Arm) → Got IsArm s ts x → Spells IsArm t (arm_pieces x) x
unfolding has
arm-turn {s} {t} u ts x g =
    let p = split (follow g).got in
    let q = unmake (follow p.right).got in
    let a : Arm = record { when = p.tree; result = q.tree } in
    subst (λ (y : Arm). Spells IsArm t (arm_pieces y) y) (sym q.is)
    (subst (λ (ps : List Piece). Spells IsArm t ps a) (sym (arm_pieces-out a))
    (after kinds.When refl (seq (u.condition p.front p.tree p.left).inner (after kinds.Then refl (made (inner u q.tokens q.tree q.got))))))

choice-turn : {s t : Below} → Turns s t → (ts : List Token) (x : Choice) → Got IsChoice s ts x → Spells IsChoice t (choice_pieces x) x
unfolding has
choice-turn {s} {t} u ts x g =
    let p = split (follow g).got in
    let q = unmake (follow p.right).got in
    let a : Choice = record { when = p.tree; result = q.tree } in
    subst (λ (y : Choice). Spells IsChoice t (choice_pieces y) y) (sym q.is)
    (subst (λ (ps : List Piece). Spells IsChoice t ps a) (sym (choice_pieces-out a))
    (after kinds.When refl (seq (inner u p.front p.tree p.left) (after kinds.Then refl (made (inner u q.tokens q.tree q.got))))))

else-turn : {s t : Below} → Turns s t → (ts : List Token) (x : Option Expr) → Got IsElse s ts x → Spells IsElse t (clause kinds.Else (option_of expr_pieces x)) x
unfolding has
else-turn u ts x g = optional kinds.Else refl expr_pieces (inner u) ts x g

else_same : (x : Option Expr) → clause kinds.Else (option_of expr_pieces x) ≡ else_pieces (option_of expr_phrase x)
else_same None = refl
else_same (Some e) = refl

-- operand, first arm, arms, ELSE and END, otherwise grouped
case_shape : (o a m e z : List Piece) → (o ++ (a ++ (m ++ e))) ++ z ≡ o ++ ((a ++ m) ++ (e ++ z))
case_shape o a m e z = simp append_assoc

arms_case : (a : Arm) (as' : List Arm) (x : Option Expr) → mark kinds.Case ∷ ((arm_pieces a ++ (flat_map arm_pieces as' ++ clause kinds.Else (option_of expr_pieces x))) ++ mark kinds.End ∷ []) ≡ case_pieces [] (map arm_pieces (a ∷ as')) (option_of expr_phrase x)
arms_case a as' x =
    ap (λ (ps : List Piece). mark kinds.Case ∷ ps)
    (case_shape [] (arm_pieces a) (flat_map arm_pieces as') (clause kinds.Else (option_of expr_pieces x)) (mark kinds.End ∷ [])
    ∙ ap (λ (ps : List Piece). (arm_pieces a ++ ps) ++ (clause kinds.Else (option_of expr_pieces x) ++ mark kinds.End ∷ [])) (sym (flat_fused (λ b. b) arm_pieces as'))
    ∙ ap (λ (ps : List Piece). (arm_pieces a ++ flat_map (λ b. b) (map arm_pieces as')) ++ (ps ++ mark kinds.End ∷ [])) (else_same x))

choices_case : (o : List Piece) (a : Choice) (as' : List Choice) (x : Option Expr) → mark kinds.Case ∷ ((o ++ (choice_pieces a ++ (flat_map choice_pieces as' ++ clause kinds.Else (option_of expr_pieces x)))) ++ mark kinds.End ∷ []) ≡ case_pieces o (map choice_pieces (a ∷ as')) (option_of expr_phrase x)
choices_case o a as' x =
    ap (λ (ps : List Piece). mark kinds.Case ∷ ps)
    (case_shape o (choice_pieces a) (flat_map choice_pieces as') (clause kinds.Else (option_of expr_pieces x)) (mark kinds.End ∷ [])
    ∙ ap (λ (ps : List Piece). o ++ ((choice_pieces a ++ ps) ++ (clause kinds.Else (option_of expr_pieces x) ++ mark kinds.End ∷ []))) (sym (flat_fused (λ b. b) choice_pieces as'))
    ∙ ap (λ (ps : List Piece). o ++ ((choice_pieces a ++ flat_map (λ b. b) (map choice_pieces as')) ++ (ps ++ mark kinds.End ∷ []))) (else_same x))

-- a CASE of either form
pub record Cased (t : Below) (e : Expr) : Type 0 where
  pub rank : (expr_phrase e).rank ≡ 3
  pub spells : Spells IsCase t (expr_pieces e) e

cased : {t : Below} (e : Expr) (ps qs : List Piece) → expr_phrase e ≡ phrase ps 3 → qs ≡ ps → Spells IsCase t qs e → Cased t e
cased {t} e ps qs h k p =
    record { rank = ap (λ (x : Phrase). x.rank) h; spells = subst (λ (x : Phrase). Spells IsCase t x.pieces e) (sym h) (subst (λ (us : List Piece). Spells IsCase t us e) k p) }

pub case-turn : {s t : Below} → Turns s t → (ts : List Token) (e : Expr) → Got IsCase s ts e → Cased t e
unfolding has
case-turn {s} {t} u ts e g =
    which (inside g).got
    (λ a.
    let p = split a in
    let q = split p.right in
    let r = unmake q.right in
    subst (λ (y : Expr). Cased t y) (sym r.is)
    (cased (exprs.Case (p.tree ∷ q.tree) r.tree) _ _ (expr_phrase-Case (p.tree ∷ q.tree) r.tree) (arms_case p.tree q.tree r.tree)
    (bracket kinds.Case kinds.End refl refl (left (seq (arm-turn u p.front p.tree p.left) (seq (many arm_pieces (arm-turn u) q.tree q.front q.left) (made (else-turn u r.tokens r.tree r.got))))))))
    (λ b.
    let o = split b in
    let p = split o.right in
    let q = split p.right in
    let r = unmake q.right in
    subst (λ (y : Expr). Cased t y) (sym r.is)
    (cased (exprs.Match o.tree (p.tree ∷ q.tree) r.tree) _ _ (expr_phrase-Match o.tree (p.tree ∷ q.tree) r.tree) (choices_case (expr_pieces o.tree) p.tree q.tree r.tree)
    (bracket kinds.Case kinds.End refl refl (right (seq (inner u o.front o.tree o.left) (seq (choice-turn u p.front p.tree p.left) (seq (many choice_pieces (choice-turn u) q.tree q.front q.left) (made (else-turn u r.tokens r.tree r.got)))))))))

-- ---- calls

function : {t : Below} (k : Kind) (c : Call) → has signs k ≡ true → has names k ≡ true → call_of k ≡ Some c → Spells IsFunction t (mark k ∷ []) c
function k c e n h =
    let p = word {t = λ ts x. ⊥} k e in
    record {
      spelled = (keyword k, refl, n, ap (λ (b : Bool). option_and_then {U = Call} (λ w. w.0) (option_and_then {U = Option Call × List ℕ} (λ m. Some (call_of k, m)) (name_in (cond b (contents.Word (spelling k)) contents.Nothing)))) n ∙ h);
      runs = p.runs;
    }

called : {t : Below} {ps : List Piece} {e : Expr} (k : Kind) (c : Call) → has signs k ≡ true → has words k ≡ true → has names k ≡ true → call_of k ≡ Some c → Spells (IsArguments c) t (mark kinds.Open ∷ ps) e → Spells IsCall t (opening k ∷ ps) e
called {t} {ps} {e} k c i w n h p = let q = seq (function k c i n h) p in regroup (opening k ∷ ps) refl (opening_run k i w, q.runs.1.1) q

as_call : {t : Below} {ps : List Piece} {e : Expr} → Spells IsCall t ps e → Spells IsFact t ps e
as_call p = right (left (right p))

no_count : (k : Kind) → call_of k ≡ Some (calls.Total aggregates.Count) → ⊥
unfolding call_of
no_count kinds.Count e = absurd cc
no_count kinds.Sum e = absurd cc
no_count kinds.Min e = absurd cc
no_count kinds.Max e = absurd cc
no_count k e = absurd cc

no_distinct : (k : Kind) → call_of k ≡ Some (calls.Total aggregates.CountDistinct) → ⊥
unfolding call_of
no_distinct kinds.Count e = absurd cc
no_distinct kinds.Sum e = absurd cc
no_distinct kinds.Min e = absurd cc
no_distinct kinds.Max e = absurd cc
no_distinct k e = absurd cc

function_of : {s : Below} {ts : List Token} {c : Call} → Got IsFunction s ts c → (k : Kind) × (call_of k ≡ Some c)
function_of {s} {ts} {c} g = (g.spelled.0.kind, go (name_in g.spelled.0.content) g.spelled.3)
  where
    go : (o : Option (List ℕ)) → option_and_then {U = Call} (λ w. w.0) (option_and_then {U = Option Call × List ℕ} (λ m. Some (call_of g.spelled.0.kind, m)) o) ≡ Some c → call_of g.spelled.0.kind ≡ Some c
    go None e = absurd cc
    go (Some n) e = e

total_called : {t : Below} {s : Below} {ts : List Token} {ps : List Piece} {e : Expr} (a : Aggregate) → Got IsFunction s ts (calls.Total a) → Spells (IsArguments (calls.Total a)) t (mark kinds.Open ∷ ps) e → Spells IsCall t (aggregate_front a ++ ps) e
unfolding has call_of
total_called aggregates.Count g p = absurd (no_count (function_of g).0 (function_of g).1)
total_called aggregates.CountDistinct g p = absurd (no_distinct (function_of g).0 (function_of g).1)
total_called aggregates.Sum g p = called kinds.Sum (calls.Total aggregates.Sum) refl refl refl refl p
total_called aggregates.Min g p = called kinds.Min (calls.Total aggregates.Min) refl refl refl refl p
total_called aggregates.Max g p = called kinds.Max (calls.Total aggregates.Max) refl refl refl refl p

applied : {t : Below} {ps : List Piece} {e : Expr} (f : Function) → Spells (IsArguments (calls.Apply f)) t (mark kinds.Open ∷ ps) e → Spells IsCall t (opening (function_kind f) ∷ ps) e
unfolding has call_of
applied functions.Length p = called kinds.Length (calls.Apply functions.Length) refl refl refl refl p
applied functions.Year p = called kinds.Year (calls.Apply functions.Year) refl refl refl refl p
applied functions.Month p = called kinds.Month (calls.Apply functions.Month) refl refl refl refl p
applied functions.Day p = called kinds.Day (calls.Apply functions.Day) refl refl refl refl p

counted-turn : {s t : Below} → Turns s t → (ts : List Token) (e : Expr) → Got IsCounted s ts e → Operand 3 t e
unfolding has call_of
counted-turn {s} {t} u ts e g =
    which g
    (λ a. subst (λ (y : Expr). Operand 3 t y) (sym (meant a)) (from_fact (exprs.Atom atoms.CountRows) _ (expr_phrase-Atom atoms.CountRows)
    (as_call (called kinds.Count calls.Count refl refl refl refl (bracket kinds.Open kinds.Close refl refl (left (means kinds.Star (exprs.Atom atoms.CountRows) refl)))))))
    (λ b. which b
    (λ c. let q = unmake (follow c).got in subst (λ (y : Expr). Operand 3 t y) (sym q.is) (from_fact (exprs.Aggregate aggregates.CountDistinct q.tree) _ (expr_phrase-Aggregate aggregates.CountDistinct q.tree)
    (as_call (called kinds.Count calls.Count refl refl refl refl (bracket kinds.Open kinds.Close refl refl (right (left (after kinds.Distinct refl (made (inner u q.tokens q.tree q.got))))))))))
    (λ c. let q = unmake c in subst (λ (y : Expr). Operand 3 t y) (sym q.is) (from_fact (exprs.Aggregate aggregates.Count q.tree) _ (expr_phrase-Aggregate aggregates.Count q.tree)
    (as_call (called kinds.Count calls.Count refl refl refl refl (bracket kinds.Open kinds.Close refl refl (right (right (made (inner u q.tokens q.tree q.got))))))))))

parted-turn : {s t : Below} → Turns s t → (ts : List Token) (e : Expr) → Got IsParted s ts e → Operand 3 t e
unfolding has call_of
parted-turn {s} {t} u ts e g =
    let p = split g in
    let q = split (follow p.right).got in
    let r = unmake q.right in
    subst (λ (y : Expr). Operand 3 t y) (sym r.is)
    (from_fact (exprs.Substr p.tree q.tree r.tree) _ (expr_phrase-Substr p.tree q.tree r.tree)
    (as_call (called kinds.Substr calls.Substr refl refl refl refl (bracket kinds.Open kinds.Close refl refl
    (seq (inner u p.front p.tree p.left) (after kinds.Comma refl (seq (inner u q.front q.tree q.left) (made (optional kinds.Comma refl expr_pieces (inner u) r.tokens r.tree r.got)))))))))

-- after the first part of a list
behind_first : {A : Type 0} (f : A → List Piece) (x : A) (xs : List A) (y : A) (ys : List A) → xs ≡ y ∷ ys → f x ++ mark kinds.Comma ∷ listed (map f xs) ≡ listed (map f (x ∷ xs))
behind_first {A} f x xs y ys e = subst (λ (zs : List A). f x ++ mark kinds.Comma ∷ listed (map f zs) ≡ listed (map f (x ∷ zs))) (sym e) refl

first_of-turn : {s t : Below} → Turns s t → (ts : List Token) (e : Expr) → Got IsFirstOf s ts e → Operand 3 t e
unfolding has call_of
first_of-turn {s} {t} u ts e g =
    let p = split g in
    let r = unmake (follow p.right).got in
    let l = split r.got in
    let m = unmake l.right in
    subst (λ (y : Expr). Operand 3 t y) (sym r.is)
    (from_fact (exprs.Coalesce (p.tree ∷ r.tree)) _ (expr_phrase-Coalesce (p.tree ∷ r.tree))
    (as_call (called kinds.Coalesce calls.Coalesce refl refl refl refl (bracket kinds.Open kinds.Close refl refl
    (subst (λ (ps : List Piece). Spells IsFirstOf t ps (exprs.Coalesce (p.tree ∷ r.tree))) (behind_first expr_pieces p.tree r.tree l.tree m.tree m.is)
    (seq (inner u p.front p.tree p.left) (after kinds.Comma refl (made (listing expr_pieces (inner u) r.tree r.tokens r.got)))))))))

shown-turn : {s t : Below} (ts : List Token) (e : Expr) → Got IsShown s ts e → Operand 3 t e
unfolding has call_of
shown-turn {s} {t} ts e g =
    let p = split g in
    let r = unmake (follow p.right).got in
    subst (λ (y : Expr). Operand 3 t y) (sym r.is)
    (from_fact (exprs.Atom (atoms.SecLabelToChar p.tree r.tree)) _ (expr_phrase-Atom (atoms.SecLabelToChar p.tree r.tree))
    (as_call (called kinds.SecLabelToChar calls.SecLabelToChar refl refl refl refl (bracket kinds.Open kinds.Close refl refl
    (seq (text-turn p.front p.tree p.left) (after kinds.Comma refl (made (column-turn r.tokens r.tree r.got))))))))

date-turn : {s t : Below} (ts : List Token) (e : Expr) → Got (Made (λ d. exprs.Atom (atoms.Date d)) IsDayLiteral) s ts e → Operand 3 t e
unfolding has call_of
date-turn {s} {t} ts e g =
    let q = unmake g in
    subst (λ (y : Expr). Operand 3 t y) (sym q.is)
    (from_fact (exprs.Atom (atoms.Date q.tree)) _ (expr_phrase-Atom (atoms.Date q.tree)) (as_call (seq (function kinds.Date calls.Date refl refl refl) (right (made (day-turn q.tokens q.tree q.got))))))

call-turn : {s t : Below} → Turns s t → (ts : List Token) (e : Expr) → Got IsCall s ts e → Operand 3 t e
unfolding has call_of
call-turn {s} {t} u ts e g = let p = split g in go p.tree p.front p.left p.rest p.right
  where
    go : (c : Call) (fs : List Token) → Got IsFunction s fs c → (rs : List Token) → Got (IsArguments c) s rs e → Operand 3 t e
    go calls.Count fs f rs a = let q = inside a in counted-turn u q.tokens e q.got
    go (calls.Total m) fs f rs a =
        let q = unmake (inside a).got in
        subst (λ (y : Expr). Operand 3 t y) (sym q.is)
        (from_fact (exprs.Aggregate m q.tree) _ (expr_phrase-Aggregate m q.tree) (as_call (total_called m f (bracket kinds.Open kinds.Close refl refl (made (inner u q.tokens q.tree q.got))))))
    go calls.Substr fs f rs a = let q = inside a in parted-turn u q.tokens e q.got
    go (calls.Apply m) fs f rs a =
        let q = unmake (inside a).got in
        subst (λ (y : Expr). Operand 3 t y) (sym q.is)
        (from_fact (exprs.Apply m q.tree) _ (expr_phrase-Apply m q.tree) (as_call (applied m (bracket kinds.Open kinds.Close refl refl (made (inner u q.tokens q.tree q.got))))))
    go calls.Coalesce fs f rs a = let q = inside a in first_of-turn u q.tokens e q.got
    go calls.VerifyRole fs f rs a =
        let q = unmake (inside a).got in
        subst (λ (y : Expr). Operand 3 t y) (sym q.is)
        (from_fact (exprs.Atom (atoms.VerifyRole q.tree)) _ (expr_phrase-Atom (atoms.VerifyRole q.tree)) (as_call (called kinds.VerifyRoleForUser calls.VerifyRole refl refl refl refl (bracket kinds.Open kinds.Close refl refl (made (verified-turn q.tokens q.tree q.got))))))
    go calls.VerifyGroup fs f rs a =
        let q = unmake (inside a).got in
        subst (λ (y : Expr). Operand 3 t y) (sym q.is)
        (from_fact (exprs.Atom (atoms.VerifyGroup q.tree)) _ (expr_phrase-Atom (atoms.VerifyGroup q.tree)) (as_call (called kinds.VerifyGroupForUser calls.VerifyGroup refl refl refl refl (bracket kinds.Open kinds.Close refl refl (made (verified-turn q.tokens q.tree q.got))))))
    go calls.SecLabel fs f rs a =
        let q = unmake (inside a).got in
        subst (λ (y : Expr). Operand 3 t y) (sym q.is)
        (from_fact (exprs.Atom (atoms.SecLabel q.tree.0 q.tree.1)) _ (expr_phrase-Atom (atoms.SecLabel q.tree.0 q.tree.1)) (as_call (called kinds.SecLabel calls.SecLabel refl refl refl refl (bracket kinds.Open kinds.Close refl refl (made (two_texts-turn q.tokens q.tree q.got))))))
    go calls.SecLabelByName fs f rs a =
        let q = unmake (inside a).got in
        subst (λ (y : Expr). Operand 3 t y) (sym q.is)
        (from_fact (exprs.Atom (atoms.SecLabelByName q.tree.0 q.tree.1)) _ (expr_phrase-Atom (atoms.SecLabelByName q.tree.0 q.tree.1)) (as_call (called kinds.SecLabelByName calls.SecLabelByName refl refl refl refl (bracket kinds.Open kinds.Close refl refl (made (two_texts-turn q.tokens q.tree q.got))))))
    go calls.SecLabelToChar fs f rs a = let q = inside a in shown-turn q.tokens e q.got
    go calls.Date fs f rs a = which a (λ b. let q = inside b in date-turn q.tokens e q.got) (λ b. date-turn rs e b)

-- ---- literals

as_literal : {t : Below} {ps : List Piece} {e : Expr} → Spells IsLiteral t ps e → Spells IsFact t ps e
as_literal p = right (right p)

today-turn : {s t : Below} (ts : List Token) (e : Expr) → Got IsToday s ts e → Operand 3 t e
unfolding has
today-turn {s} {t} ts e g =
    let is : e ≡ exprs.Atom atoms.CurrentDate = which g (λ a. meant (follow a).got) (λ b. meant b) in
    subst (λ (y : Expr). Operand 3 t y) (sym is)
    (from_fact (exprs.Atom atoms.CurrentDate) _ (expr_phrase-Atom atoms.CurrentDate)
    (as_literal (right (right (right (left (left (after kinds.Current refl (means kinds.Date (exprs.Atom atoms.CurrentDate) refl)))))))))

literal-turn : {s t : Below} → Turns s t → (ts : List Token) (e : Expr) → Got IsLiteral s ts e → Operand 3 t e
unfolding has
literal-turn {s} {t} u ts e g =
    which g
    (λ a. subst (λ (y : Expr). Operand 3 t y) (sym (meant a)) (from_fact (exprs.Atom atoms.Null) _ (expr_phrase-Atom atoms.Null) (as_literal (left (means kinds.Null (exprs.Atom atoms.Null) refl)))))
    (λ b. which b
    (λ a. let q = number-turn ts e a in subst (λ (y : Expr). Operand 3 t y) (sym q.1) (from_fact (exprs.Atom (atoms.Int q.0)) _ (expr_phrase-Atom (atoms.Int q.0)) (as_literal (right (left q.2)))))
    (λ b. which b
    (λ a. let q = unmake a in subst (λ (y : Expr). Operand 3 t y) (sym q.is) (from_fact (exprs.Atom (atoms.Text q.tree)) _ (expr_phrase-Atom (atoms.Text q.tree)) (as_literal (right (right (left (made (text-turn q.tokens q.tree q.got))))))))
    (λ b. which b
    (λ a. today-turn ts e a)
    (λ b. which b
    (λ a. subst (λ (y : Expr). Operand 3 t y) (sym (meant a)) (from_fact (exprs.Atom atoms.SessionUser) _ (expr_phrase-Atom atoms.SessionUser) (as_literal (right (right (right (right (left (means kinds.SessionUser (exprs.Atom atoms.SessionUser) refl)))))))))
    (λ c. let q = case-turn u ts e c in from_fact e (expr_pieces e) (ap (λ (r : ℕ). phrase (expr_pieces e) r) q.rank) (as_literal (right (right (right (right (right q.spells)))))))))))

-- ---- facts, terms, concatenations and sums

fact-turn : {s t : Below} → Turns s t → (ts : List Token) (e : Expr) → Got IsFact s ts e → Operand 3 t e
fact-turn {s} {t} u ts e g =
    which g
    (λ a. let q = inside a in let c = u.expr q.tokens e q.got in record { formed = c.formed; inner = λ _. c.inner })
    (λ b. which b
    (λ c. which c
    (λ d. let q = unmake d in subst (λ (y : Expr). Operand 3 t y) (sym q.is) (from_fact (exprs.Atom (atoms.Column q.tree)) _ (expr_phrase-Atom (atoms.Column q.tree)) (right (left (left (made (column-turn q.tokens q.tree q.got)))))))
    (λ d. call-turn u ts e d))
    (λ c. literal-turn u ts e c))

term-turn : {s t : Below} → Turns s t → (ts : List Token) (e : Expr) → Got IsTerm s ts e → Operand 2 t e
unfolding has
term-turn {s} {t} u ts e g =
    let p = split g in
    let q = unmake p.right in
    subst (λ (y : Expr). Operand 2 t y) (sym q.is) (go p.tree (fact-turn u p.front p.tree p.left) q.tree q.tokens q.got)
  where
    go : (x : Expr) → Operand 3 t x → (xs : List Expr) (ts : List Token) → Got (Many (After kinds.Star IsFact)) s ts xs → Operand 2 t (products x xs)
    go x a [] ts h = weaken 2 a
    go x a (y ∷ ys) ts h =
        from_term (exprs.Product (x ∷ y ∷ ys)) _ (expr_phrase-Product (x ∷ y ∷ ys))
        (seq (at_fact a) (made (many_after kinds.Star refl (λ z. at_least 3 (expr_phrase z)) (λ ts z i. at_fact (fact-turn u ts z i)) (y ∷ ys) ts h)))

concat-turn : {s t : Below} → Turns s t → (ts : List Token) (e : Expr) → Got IsConcat s ts e → Operand 1 t e
unfolding has
concat-turn {s} {t} u ts e g =
    let p = split g in
    let q = unmake p.right in
    subst (λ (y : Expr). Operand 1 t y) (sym q.is) (go p.tree (term-turn u p.front p.tree p.left) q.tree q.tokens q.got)
  where
    go : (x : Expr) → Operand 2 t x → (xs : List Expr) (ts : List Token) → Got (Many (After kinds.Bars IsTerm)) s ts xs → Operand 1 t (concats x xs)
    go x a [] ts h = weaken 1 a
    go x a (y ∷ ys) ts h =
        from_concat (exprs.Concat (x ∷ y ∷ ys)) _ (expr_phrase-Concat (x ∷ y ∷ ys))
        (seq (at_term a) (made (many_after kinds.Bars refl (λ z. at_least 2 (expr_phrase z)) (λ ts z i. at_term (term-turn u ts z i)) (y ∷ ys) ts h)))

sign-turn : {s t : Below} (ts : List Token) (m : Bool) → Got IsSign s ts m → Spells IsSign t (mark (sign_kind m) ∷ []) m
unfolding has
sign-turn {s} {t} ts m g =
    which g
    (λ a. subst (λ (b : Bool). Spells IsSign t (mark (sign_kind b) ∷ []) b) (sym (meant a)) (left (means kinds.Plus false refl)))
    (λ a. subst (λ (b : Bool). Spells IsSign t (mark (sign_kind b) ∷ []) b) (sym (meant a)) (right (means kinds.Minus true refl)))

signed-turn : {s t : Below} → Turns s t → (ts : List Token) (x : Signed) → Got IsSigned s ts x → Spells IsSigned t (signed (signed_part x)) x
signed-turn {s} {t} u ts x g =
    let p = split g in
    let q = unmake p.right in
    let r : Signed = record { minus = p.tree; part = q.tree } in
    subst (λ (y : Signed). Spells IsSigned t (signed (signed_part y)) y) (sym q.is)
    (subst (λ (z : Bool × Phrase). Spells IsSigned t (signed z) r) (sym (signed_part-out r))
    (seq (sign-turn p.front p.tree p.left) (made (at_concat (concat-turn u q.tokens q.tree q.got)))))

sum_shape : (x : Expr) (ys : List Signed) → at_least 1 (expr_phrase x) ++ flat_map (λ y. signed (signed_part y)) ys ≡ sum_pieces (map signed_part (record { minus = false; part = x } ∷ ys))
sum_shape x ys =
    ap (λ (ps : List Piece). at_least 1 (expr_phrase x) ++ ps) (sym (flat_fused signed signed_part ys))
    ∙ ap (λ (z : Bool × Phrase). at_least 1 z.1 ++ flat_map signed (map signed_part ys)) (sym (signed_part-out (record { minus = false; part = x })))

pub expr-turn : {s t : Below} → Turns s t → (ts : List Token) (e : Expr) → Got IsExpr s ts e → Formed t e
expr-turn {s} {t} u ts e g =
    let p = split g in
    let q = unmake p.right in
    subst (λ (y : Expr). Formed t y) (sym q.is) (go p.tree (concat-turn u p.front p.tree p.left) q.tree q.tokens q.got)
  where
    go : (x : Expr) → Operand 1 t x → (xs : List Signed) (ts : List Token) → Got (Many IsSigned) s ts xs → Formed t (sums x xs)
    go x a [] ts h = a.formed
    go x a (y ∷ ys) ts h =
        from_sum (exprs.Sum (record { minus = false; part = x } ∷ y ∷ ys)) _ (expr_phrase-Sum (record { minus = false; part = x } ∷ y ∷ ys))
        (subst (λ (ps : List Piece). Spells IsExpr t ps (exprs.Sum (record { minus = false; part = x } ∷ y ∷ ys))) (sum_shape x (y ∷ ys))
        (seq (at_concat a) (made (many (λ z. signed (signed_part z)) (signed-turn u) (y ∷ ys) ts h))))

pub whole_expr : {s t : Below} → Turns s t → (ts : List Token) (e : Expr) → Got IsExpr s ts e → Spells IsExpr t (expr_pieces e) e
whole_expr u ts e g = (expr-turn u ts e g).whole
