-- Conditions, spelled by canonical pieces.
use Rattle.std.proofs.Common.{Bool, true, false, ◌⊎◌, inl, inr, ◌≡◌, ℕ, suc, List, [], ◌∷◌, ◌++◌, map, refl, sym, ap, subst, ◌∙◌, arith}
use Rattle.std.specs.Prelude.{nat_le}
use Rattle.std.proofs.lemmas.Bool.Decides.{nat_tests}
use Rattle.lb_tree.specs.declared.query.Comparison.{Comparison}
use Rattle.lb_tree.specs.declared.query.Comparison.TheVariants as comparisons
use Rattle.lb_tree.specs.declared.query.Expr.{Expr}
use Rattle.lb_tree.specs.declared.query.Cond.{Cond}
use Rattle.lb_tree.specs.declared.query.Cond.TheVariants as conds
use Rattle.lb_tok.specs.declared.kind.Kind.TheVariants as kinds
use Rattle.lb_tok.specs.declared.token.Token.{Token}
use Rattle.lb_tok.specs.Kinds.{has}
use Rattle.lb_tok.specs.Words.{comparison_of}
use Rattle.lb_tok.specs.Form.{a_cond, Below, Lang, Seq, Either, Many, After, Made, Means, Parens}
use Rattle.lb_tok.specs.Spacing.{Piece, mark, keyword, tokens_in}
use Rattle.lb_tok.specs.QueryPieces.{separated, listed, parens, Phrase, enclosed, at_least, comparison_kind, expr_pieces, cond_phrase, cond_pieces, query_pieces}
use Rattle.lb_tok.specs.Grammar.{ands, ors, InQuery, IsExpr, IsComparison, Negated, IsSet, IsRange, IsPred, IsPrim, IsNeg, IsConj, IsCond}
use Rattle.lb_tok.proofs.Opens.{cond_phrase-Or, cond_phrase-And, cond_phrase-Not, cond_phrase-Exists, cond_phrase-Compare, cond_phrase-CompareQuery, cond_phrase-IsNull, cond_phrase-InQuery, cond_phrase-InList, cond_phrase-Between}
use Rattle.lb_tok.proofs.Fitting.{mark_run}
use Rattle.lb_tok.proofs.SpelledPieces.{Got, split, follow, unmake, meant, which, inside, Spells, seq, made, after, means, left, right, bracket, many_after, listing, lone}
use Rattle.lb_tok.proofs.Contents.{FormedCond, OperandCond, Turns}
use Rattle.lb_tok.proofs.SpelledExpressions.{whole_expr}

-- What brackets hold, one bracket further in too: where a condition is spelled there, brackets hold it here.
pub record Room (s t : Below) : Type 1 where
  pub here : Turns s t
  pub below : Below
  pub lower : Turns s below
  pub lift : (ts : List Token) (c : Cond) → IsCond below ts c → t ts (a_cond c)

-- ---- levels

no_less : (r : ℕ) (x y : Phrase) → x ≡ y → nat_le r y.rank ≡ true → nat_le r x.rank ≡ false → ⊥
no_less r x y h e f = let z : ◌≡◌ {A = Bool} true false = sym e ∙ ap (λ (p : Phrase). nat_le r p.rank) (sym h) ∙ f in absurd cc

no_more : (r : ℕ) (x y : Phrase) → x ≡ y → nat_le r y.rank ≡ false → nat_le r x.rank ≡ true → ⊥
no_more r x y h e f = let z : ◌≡◌ {A = Bool} false true = sym e ∙ ap (λ (p : Phrase). nat_le r p.rank) (sym h) ∙ f in absurd cc

abbrev phrase : List Piece → ℕ → Phrase
phrase ps r = record { pieces = ps; rank = r }

from_prim : {t : Below} (c : Cond) (ps : List Piece) → cond_phrase c ≡ phrase ps 3 → Spells IsPrim t ps c → FormedCond t c
from_prim {t} c ps h p =
    let q : Spells IsPrim t (cond_pieces c) c = subst (λ (x : Phrase). Spells IsPrim t x.pieces c) (sym h) p in
    record { prim = λ _. q; neg = λ _. right q; conj = λ _. lone ands (right q); whole = lone ors (lone ands (right q)) }

from_neg : {t : Below} (c : Cond) (ps : List Piece) → cond_phrase c ≡ phrase ps 2 → Spells IsNeg t ps c → FormedCond t c
from_neg {t} c ps h p =
    let q : Spells IsNeg t (cond_pieces c) c = subst (λ (x : Phrase). Spells IsNeg t x.pieces c) (sym h) p in
    record { prim = λ n. absurd (no_more 3 (cond_phrase c) (phrase ps 2) h refl n); neg = λ _. q; conj = λ _. lone ands q; whole = lone ors (lone ands q) }

from_conj : {t : Below} (c : Cond) (ps : List Piece) → cond_phrase c ≡ phrase ps 1 → Spells IsConj t ps c → FormedCond t c
from_conj {t} c ps h p =
    let q : Spells IsConj t (cond_pieces c) c = subst (λ (x : Phrase). Spells IsConj t x.pieces c) (sym h) p in
    record {
      prim = λ n. absurd (no_more 3 (cond_phrase c) (phrase ps 1) h refl n);
      neg = λ n. absurd (no_more 2 (cond_phrase c) (phrase ps 1) h refl n);
      conj = λ _. q;
      whole = lone ors q;
    }

from_cond : {t : Below} (c : Cond) (ps : List Piece) → cond_phrase c ≡ phrase ps 0 → Spells IsCond t ps c → FormedCond t c
from_cond {t} c ps h p =
    record {
      prim = λ n. absurd (no_more 3 (cond_phrase c) (phrase ps 0) h refl n);
      neg = λ n. absurd (no_more 2 (cond_phrase c) (phrase ps 0) h refl n);
      conj = λ n. absurd (no_more 1 (cond_phrase c) (phrase ps 0) h refl n);
      whole = subst (λ (x : Phrase). Spells IsCond t x.pieces c) (sym h) p;
    }

looser : (r n : ℕ) → nat_le r n ≡ false → nat_le (suc r) n ≡ false
looser r n h = grind (arith, nat_tests)

weaken : {t : Below} {c : Cond} (r : ℕ) → OperandCond (suc r) t c → OperandCond r t c
weaken {t} {c} r p = record { formed = p.formed; inner = λ n. p.inner (looser r (cond_phrase c).rank n) }

-- where it holds together that tightly, no bracket is wanted
tight : {t : Below} {c : Cond} (r : ℕ) (ps : List Piece) → cond_phrase c ≡ phrase ps r → nat_le r r ≡ true → FormedCond t c → OperandCond r t c
tight {t} {c} r ps h e p = record { formed = p; inner = λ n. absurd (no_less r (cond_phrase c) (phrase ps r) h e n) }

at_prim : {t : Below} {c : Cond} → OperandCond 3 t c → Spells IsPrim t (at_least 3 (cond_phrase c)) c
unfolding has
at_prim {t} {c} p = go (nat_le 3 (cond_phrase c).rank) refl
  where
    go : (b : Bool) → nat_le 3 (cond_phrase c).rank ≡ b → Spells IsPrim t (enclosed b (cond_pieces c)) c
    go true h = p.formed.prim h
    go false h = left (bracket kinds.Open kinds.Close refl refl (p.inner h))

at_neg : {t : Below} {c : Cond} → OperandCond 2 t c → Spells IsNeg t (at_least 2 (cond_phrase c)) c
unfolding has
at_neg {t} {c} p = go (nat_le 2 (cond_phrase c).rank) refl
  where
    go : (b : Bool) → nat_le 2 (cond_phrase c).rank ≡ b → Spells IsNeg t (enclosed b (cond_pieces c)) c
    go true h = p.formed.neg h
    go false h = right (left (bracket kinds.Open kinds.Close refl refl (p.inner h)))

at_conj : {t : Below} {c : Cond} → OperandCond 1 t c → Spells IsConj t (at_least 1 (cond_phrase c)) c
unfolding has
at_conj {t} {c} p = go (nat_le 1 (cond_phrase c).rank) refl
  where
    go : (b : Bool) → nat_le 1 (cond_phrase c).rank ≡ b → Spells IsConj t (enclosed b (cond_pieces c)) c
    go true h = p.formed.conj h
    go false h = lone ands (right (left (bracket kinds.Open kinds.Close refl refl (p.inner h))))

-- ---- predicates

comparison-turn : {s t : Below} (ts : List Token) (x : Comparison) → Got IsComparison s ts x → Spells IsComparison t (mark (comparison_kind x) ∷ []) x
unfolding has comparison_of
comparison-turn ts comparisons.Equal g = record { spelled = (keyword kinds.Equal, refl, refl, refl); runs = (mark_run kinds.Equal refl, tt) }
comparison-turn ts comparisons.NotEqual g = record { spelled = (keyword kinds.NotEqual, refl, refl, refl); runs = (mark_run kinds.NotEqual refl, tt) }
comparison-turn ts comparisons.Less g = record { spelled = (keyword kinds.Less, refl, refl, refl); runs = (mark_run kinds.Less refl, tt) }
comparison-turn ts comparisons.AtMost g = record { spelled = (keyword kinds.AtMost, refl, refl, refl); runs = (mark_run kinds.AtMost refl, tt) }
comparison-turn ts comparisons.Greater g = record { spelled = (keyword kinds.Greater, refl, refl, refl); runs = (mark_run kinds.Greater refl, tt) }
comparison-turn ts comparisons.AtLeast g = record { spelled = (keyword kinds.AtLeast, refl, refl, refl); runs = (mark_run kinds.AtLeast refl, tt) }

-- after the expression: a predicate that holds of it, or does not
pub record Behind (t : Below) (e : Expr) (c : Cond) : Type 0 where
  pub pieces : List Piece
  pub is : cond_phrase c ≡ phrase (expr_pieces e ++ pieces) 3
  pub spells : Spells (IsPred e) t pieces c

-- a negated one is NOT over the plain one
abbrev Negates : Below → Expr → Cond → Type 0
Negates t e c = Behind t e c ⊎ ((d : Cond) × (c ≡ conds.Not d) × Behind t e d)

negated : {s t : Below} {P : Lang Cond} {e : Expr} → ((ts : List Token) (c : Cond) → Got P s ts c → Behind t e c) → (ts : List Token) (c : Cond) → Got (Negated P) s ts c → Negates t e c
negated h ts c g =
    which g
    (λ a. let q = unmake (follow a).got in inr (q.tree, q.is, h q.tokens q.tree q.got))
    (λ b. inl (h ts c b))

null_test : {s t : Below} (e : Expr) (ts : List Token) (c : Cond) → Got (Means kinds.Null (conds.IsNull e)) s ts c → Behind t e c
unfolding has
null_test {s} {t} e ts c g =
    subst (λ (d : Cond). Behind t e d) (sym (meant g))
    (record { pieces = mark kinds.Is ∷ mark kinds.Null ∷ []; is = cond_phrase-IsNull e; spells = right (left (after kinds.Is refl (right (means kinds.Null (conds.IsNull e) refl)))) })

set_test : {s t : Below} → Turns s t → (e : Expr) (ts : List Token) (c : Cond) → Got (Parens (IsSet e)) s ts c → Behind t e c
unfolding has
set_test {s} {t} u e ts c g =
    which (inside g).got
    (λ a. let q = unmake a in
    subst (λ (d : Cond). Behind t e d) (sym q.is)
    (record {
      pieces = mark kinds.In ∷ parens (query_pieces q.tree);
      is = cond_phrase-InQuery e q.tree;
      spells = right (right (right (left (after kinds.In refl (bracket kinds.Open kinds.Close refl refl (left (made (u.query q.tokens q.tree q.got))))))));
    }))
    (λ a. let q = unmake a in
    subst (λ (d : Cond). Behind t e d) (sym q.is)
    (record {
      pieces = mark kinds.In ∷ parens (listed (map expr_pieces q.tree));
      is = cond_phrase-InList e q.tree;
      spells = right (right (right (left (after kinds.In refl (bracket kinds.Open kinds.Close refl refl (right (made (listing expr_pieces (λ ts x h. (u.expr ts x h).inner) q.tree q.tokens q.got))))))));
    }))

range_test : {s t : Below} → Turns s t → (e : Expr) (ts : List Token) (c : Cond) → Got (IsRange e) s ts c → Behind t e c
unfolding has
range_test {s} {t} u e ts c g =
    which g
    (λ a. let q = follow a in set_test u e q.tokens c q.got)
    (λ a.
    let p = split (follow a).got in
    let q = unmake (follow p.right).got in
    subst (λ (d : Cond). Behind t e d) (sym q.is)
    (record {
      pieces = mark kinds.Between ∷ (expr_pieces p.tree ++ mark kinds.And ∷ expr_pieces q.tree);
      is = cond_phrase-Between e p.tree q.tree;
      spells = right (right (right (right (after kinds.Between refl (seq (whole_expr u p.front p.tree p.left) (after kinds.And refl (made (whole_expr u q.tokens q.tree q.got))))))));
    }))

comparing : {s t : Below} → Turns s t → (e : Expr) (ts : List Token) (c : Cond) → Got (Seq IsComparison (λ o. Either (Made (conds.CompareQuery o e) (Parens InQuery)) (Made (conds.Compare o e) IsExpr))) s ts c → Behind t e c
unfolding has
comparing {s} {t} u e ts c g =
    let p = split g in
    which p.right
    (λ a. let q = unmake a in let r = inside q.got in
    subst (λ (d : Cond). Behind t e d) (sym q.is)
    (record {
      pieces = mark (comparison_kind p.tree) ∷ parens (query_pieces q.tree);
      is = cond_phrase-CompareQuery p.tree e q.tree;
      spells = left (seq (comparison-turn p.front p.tree p.left) (left (made (bracket kinds.Open kinds.Close refl refl (u.query r.tokens q.tree r.got)))));
    }))
    (λ a. let q = unmake a in
    subst (λ (d : Cond). Behind t e d) (sym q.is)
    (record {
      pieces = mark (comparison_kind p.tree) ∷ expr_pieces q.tree;
      is = cond_phrase-Compare p.tree e q.tree;
      spells = left (seq (comparison-turn p.front p.tree p.left) (right (made (whole_expr u q.tokens q.tree q.got))));
    }))

pred-turn : {s t : Below} → Turns s t → (e : Expr) (ts : List Token) (c : Cond) → Got (IsPred e) s ts c → Negates t e c
pred-turn u e ts c g =
    which g
    (λ a. inl (comparing u e ts c a))
    (λ b. which b
    (λ a. let q = follow a in negated (null_test e) q.tokens c q.got)
    (λ a. negated (range_test u e) ts c a))

-- ---- conditions

predicate : {t : Below} {e : Expr} {c : Cond} → Spells IsExpr t (expr_pieces e) e → Behind t e c → FormedCond t c
predicate {t} {e} {c} p b = from_prim c (expr_pieces e ++ b.pieces) b.is (right (right (seq p b.spells)))

-- NOT over a condition that wants no bracket
denied : {t : Below} (c : Cond) → Spells IsPrim t (at_least 3 (cond_phrase c)) c → FormedCond t (conds.Not c)
unfolding has
denied c p = from_neg (conds.Not c) (mark kinds.Not ∷ at_least 3 (cond_phrase c)) (cond_phrase-Not c) (left (after kinds.Not refl (made p)))

-- a predicate holds together tightly
bare : {t : Below} {c : Cond} (ps : List Piece) → cond_phrase c ≡ phrase ps 3 → Spells IsPrim t (cond_pieces c) c → Spells IsPrim t (at_least 3 (cond_phrase c)) c
bare {t} {c} ps h p = subst (λ (b : Bool). Spells IsPrim t (enclosed b (cond_pieces c)) c) (sym (ap (λ (x : Phrase). nat_le 3 x.rank) h)) p

is_tight : (c : Cond) (ps : List Piece) → cond_phrase c ≡ phrase ps 3 → nat_le 3 (cond_phrase c).rank ≡ true
is_tight c ps h = ap (λ (x : Phrase). nat_le 3 x.rank) h

prim_formed : {s t : Below} → Turns s t → (ts : List Token) (c : Cond) → Got IsPrim s ts c → FormedCond t c
unfolding has
prim_formed {s} {t} u ts c g =
    which g
    (λ a. let q = inside a in (u.condition q.tokens c q.got).formed)
    (λ b. which b
    (λ a. let q = unmake (follow a).got in let r = inside q.got in
    subst (λ (d : Cond). FormedCond t d) (sym q.is)
    (from_prim (conds.Exists q.tree) (mark kinds.Exists ∷ parens (query_pieces q.tree)) (cond_phrase-Exists q.tree)
    (right (left (after kinds.Exists refl (made (bracket kinds.Open kinds.Close refl refl (u.query r.tokens q.tree r.got))))))))
    (λ a. let p = split a in go p.tree (whole_expr u p.front p.tree p.left) (pred-turn u p.tree p.rest c p.right)))
  where
    go : (e : Expr) → Spells IsExpr t (expr_pieces e) e → Negates t e c → FormedCond t c
    go e p (inl b) = predicate p b
    go e p (inr d) =
        let f = predicate p d.2 in
        subst (λ (x : Cond). FormedCond t x) (sym d.1) (denied d.0 (bare (expr_pieces e ++ d.2.pieces) d.2.is (f.prim (is_tight d.0 (expr_pieces e ++ d.2.pieces) d.2.is))))

prim-turn : {s t : Below} → Room s t → (ts : List Token) (c : Cond) → Got IsPrim s ts c → OperandCond 3 t c
prim-turn r ts c g =
    let w = (prim_formed r.lower ts c g).whole in
    record { formed = prim_formed r.here ts c g; inner = λ _. record { spelled = r.lift (tokens_in (cond_pieces c)) c w.spelled; runs = w.runs } }

neg-turn : {s t : Below} → Room s t → (ts : List Token) (c : Cond) → Got IsNeg s ts c → OperandCond 2 t c
neg-turn {s} {t} r ts c g =
    which g
    (λ a. let q = unmake (follow a).got in
    subst (λ (d : Cond). OperandCond 2 t d) (sym q.is)
    (tight 2 (mark kinds.Not ∷ at_least 3 (cond_phrase q.tree)) (cond_phrase-Not q.tree) refl (denied q.tree (at_prim (prim-turn r q.tokens q.tree q.got)))))
    (λ b. weaken 2 (prim-turn r ts c b))

conj-turn : {s t : Below} → Room s t → (ts : List Token) (c : Cond) → Got IsConj s ts c → OperandCond 1 t c
unfolding has
conj-turn {s} {t} r ts c g =
    let p = split g in
    let q = unmake p.right in
    subst (λ (y : Cond). OperandCond 1 t y) (sym q.is) (go p.tree (neg-turn r p.front p.tree p.left) q.tree q.tokens q.got)
  where
    go : (x : Cond) → OperandCond 2 t x → (xs : List Cond) (ts : List Token) → Got (Many (After kinds.And IsNeg)) s ts xs → OperandCond 1 t (ands x xs)
    go x a [] ts h = weaken 1 a
    go x a (y ∷ ys) ts h =
        tight 1 (separated kinds.And (map (λ z. at_least 2 (cond_phrase z)) (x ∷ y ∷ ys))) (cond_phrase-And (x ∷ y ∷ ys)) refl
        (from_conj (conds.And (x ∷ y ∷ ys)) _ (cond_phrase-And (x ∷ y ∷ ys))
        (seq (at_neg a) (made (many_after kinds.And refl (λ z. at_least 2 (cond_phrase z)) (λ ts z i. at_neg (neg-turn r ts z i)) (y ∷ ys) ts h))))

pub cond-turn : {s t : Below} → Room s t → (ts : List Token) (c : Cond) → Got IsCond s ts c → FormedCond t c
unfolding has
cond-turn {s} {t} r ts c g =
    let p = split g in
    let q = unmake p.right in
    subst (λ (y : Cond). FormedCond t y) (sym q.is) (go p.tree (conj-turn r p.front p.tree p.left) q.tree q.tokens q.got)
  where
    go : (x : Cond) → OperandCond 1 t x → (xs : List Cond) (ts : List Token) → Got (Many (After kinds.Or IsConj)) s ts xs → FormedCond t (ors x xs)
    go x a [] ts h = a.formed
    go x a (y ∷ ys) ts h =
        from_cond (conds.Or (x ∷ y ∷ ys)) _ (cond_phrase-Or (x ∷ y ∷ ys))
        (seq (at_conj a) (made (many_after kinds.Or refl (λ z. at_least 1 (cond_phrase z)) (λ ts z i. at_conj (conj-turn r ts z i)) (y ∷ ys) ts h)))

pub whole_cond : {s t : Below} → Room s t → (ts : List Token) (c : Cond) → Got IsCond s ts c → Spells IsCond t (cond_pieces c) c
whole_cond r ts c g = (cond-turn r ts c g).whole
