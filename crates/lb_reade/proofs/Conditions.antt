-- Conditions, and what stands in a bracket at a condition's head.
use Rattle.std.proofs.Common.{Bool, true, false, inl, inr, ◌≡◌, ℕ, List, [], ◌++◌, refl, sym, subst}
use Rattle.lb_tree.specs.declared.query.Expr.{Expr}
use Rattle.lb_tree.specs.declared.query.Cond.{Cond}
use Rattle.lb_tree.specs.declared.query.Cond.TheVariants as conds
use Rattle.lb_tree.specs.declared.query.Query.{Query}
use Rattle.lb_tree.specs.declared.query.Comparison.{Comparison}
use Rattle.lb_tok.specs.declared.kind.Kind.TheVariants as kinds
use Rattle.lb_tok.specs.declared.token.Token.{Token}
use Rattle.lb_tok.specs.Kinds.{Kinds, only}
use Rattle.lb_tok.specs.Form.{Below, Lang, Nothing, Seq, Either, Many, After, Made, Parens}
use Rattle.lb_tok.specs.Grammar.{ands, ors, InExpr, InCond, InQuery, IsFact, IsExpr, IsNullTest, IsSet, IsRange, IsPred, IsPrim, IsNeg, IsConj, IsCond}
use Rattle.lb_readt.specs.Readers.{Reader, seq}
use Rattle.lb_reade.specs.Expressions.{Mixed, Side, Readers, rest_at, null_test_at, set_at, range_at, side_at, compared_on, compared_at, pred_at, in_pred, may_pred, behind, exists_at, prim_with, prim_at, may_prim, neg_at, may_neg, and_on, conj_at, or_on, cond_at, mixed_on, mixed_at}
use Rattle.lb_readt.proofs.Joined.{Within}
use Rattle.lb_readt.proofs.Combined.{IsReaderOf, give_reads, then_reads, same_reads, pick_reads, many_reads, wide, made_reads, after_reads, means_reads, listed_reads}
use Rattle.lb_reade.proofs.Inner.{in_fact, in_cond, MixedOf, InMixed}
use Rattle.lb_readt.proofs.Languages.{assoc, unassoc, seq_map, bracket_map, nil, ends, made_is, made_of}
use Rattle.lb_readt.proofs.Tokens.{comparison_reads}
use Rattle.lb_reade.proofs.Expressions.{after_expr, after_cond, after_query, Lower, Ready, parens_reads, expr_reads, rest_reads, plain_reads, Plain, Rest, in_rest, to_parts, from_parts}

-- what may go on after a primary condition
abbrev after_prim : Kinds
after_prim = after_expr ++ in_pred

-- ---- predicates

null_test_reads : {b : Bool} {d : ℕ} (e : Expr) → IsReaderOf b d (null_test_at e) (IsNullTest e) false (only kinds.Not ++ only kinds.Null) []
unfolding null_test_at
null_test_reads e = wide _ _ refl refl refl (pick_reads (after_reads kinds.Not refl (made_reads conds.Not (means_reads kinds.Null (conds.IsNull e) refl))) (means_reads kinds.Null (conds.IsNull e) refl) refl)

set_reads : {b : Bool} {d : ℕ} {w : Readers} (e : Expr) → Lower b d w → IsReaderOf b d (set_at w e) (IsSet e) false (only kinds.Select ++ in_fact) after_query
unfolding set_at
set_reads e l = wide _ _ refl refl refl (pick_reads (made_reads (conds.InQuery e) l.query) (made_reads (conds.InList e) (listed_reads l.expr refl)) refl)

range_reads : {b : Bool} {d : ℕ} {w : Readers} → Ready d w → (e : Expr) → IsReaderOf b d (range_at w e) (IsRange e) false (only kinds.In ++ only kinds.Between) after_expr
unfolding range_at
range_reads r e = wide _ _ refl refl refl (pick_reads (after_reads kinds.In refl (parens_reads r (record { reads = λ b d l. set_reads e l }) refl))
    (after_reads kinds.Between refl (then_reads (expr_reads r) (λ low. after_reads kinds.And refl (made_reads (λ high. conds.Between e low high) (expr_reads r))) refl)) refl)

-- a query or an expression in brackets
abbrev SideOf : Lang Side
SideOf = Either (Made (λ q. inl q) InQuery) (Made (λ e. inr e) InExpr)

side_reads : {b : Bool} {d : ℕ} {w : Readers} → Lower b d w → IsReaderOf b d (side_at w) SideOf false (only kinds.Select ++ in_fact) after_query
unfolding side_at
side_reads l = wide _ _ refl refl refl (pick_reads (made_reads (λ q. inl q) l.query) (made_reads (λ e. inr e) l.expr) refl)

abbrev ComparedOn : Expr → Comparison → Side → Lang Cond
ComparedOn e c (inl q) = Nothing (conds.CompareQuery c e q)
ComparedOn e c (inr x) = Made (conds.Compare c e) (Rest x)

compared_on_reads : {b : Bool} {d : ℕ} {w : Readers} → Ready d w → (e : Expr) (c : Comparison) (m : Side) → IsReaderOf b d (compared_on w e c m) (ComparedOn e c m) true in_rest after_expr
compared_on_reads r e c (inl q) = wide _ _ refl refl refl (give_reads (conds.CompareQuery c e q))
compared_on_reads r e c (inr x) = made_reads (conds.Compare c e) (rest_reads r x)

abbrev Compared : Expr → Comparison → Lang Cond
Compared e c = Either (Seq (Parens SideOf) (ComparedOn e c)) (Seq Plain (λ x. Made (conds.Compare c e) (Rest x)))

-- what may follow a comparison sign
abbrev RightSide : Expr → Comparison → Lang Cond
RightSide e c = Either (Made (conds.CompareQuery c e) (Parens InQuery)) (Made (conds.Compare c e) IsExpr)

-- an expression and what follows, from its first fact on
pub to_exprs : {M : Type 0} (Last : Expr → Lang M) → Within (Seq IsFact (λ x. Seq (Rest x) Last)) (Seq IsExpr Last)
to_exprs Last s ts y p = seq_map (Seq IsFact Rest) IsExpr Last Last from_parts (λ x s u z q. q) s ts y (unassoc IsFact Rest Last s ts y p)

pub of_exprs : {M : Type 0} (Last : Expr → Lang M) → Within (Seq IsExpr Last) (Seq IsFact (λ x. Seq (Rest x) Last))
of_exprs Last s ts y p = assoc IsFact Rest Last s ts y (seq_map IsExpr (Seq IsFact Rest) Last Last to_parts (λ x s u z q. q) s ts y p)

side_in : (s : Below) (q : Query) (ts : List Token) → SideOf s ts (inl q) → InQuery s ts q
side_in s q ts (inl p) = let m = made_of (λ z. inl z) InQuery s ts (inl q) p in subst (λ (z : Query). InQuery s ts z) (sym (same m.0 q m.2)) m.1
  where
    same : (a b : Query) → ◌≡◌ {A = Side} (inl b) (inl a) → b ≡ a
    same a b e = cc
side_in s q ts (inr p) = let m = made_of (λ z. inr z) InExpr s ts (inl q) p in absurd (apart m.0 q m.2)
  where
    apart : (a : Expr) (b : Query) → ◌≡◌ {A = Side} (inl b) (inr a) → ⊥
    apart a b e = cc

side_ex : (s : Below) (x : Expr) (ts : List Token) → SideOf s ts (inr x) → InExpr s ts x
side_ex s x ts (inr p) = let m = made_of (λ z. inr z) InExpr s ts (inr x) p in subst (λ (z : Expr). InExpr s ts z) (sym (same m.0 x m.2)) m.1
  where
    same : (a b : Expr) → ◌≡◌ {A = Side} (inr b) (inr a) → b ≡ a
    same a b e = cc
side_ex s x ts (inl p) = let m = made_of (λ z. inl z) InQuery s ts (inr x) p in absurd (apart m.0 x m.2)
  where
    apart : (a : Query) (b : Expr) → ◌≡◌ {A = Side} (inr b) (inl a) → ⊥
    apart a b e = cc

to_compared : (e : Expr) (c : Comparison) → Within (Compared e c) (RightSide e c)
to_compared e c s ts y (inl p) = go p.2 p.3 p.4
  where
    go : (m : Side) → Parens SideOf s p.0 m → ComparedOn e c m s p.1 y → RightSide e c s ts y
    go (inl q) b n = inl (p.0, p.1, q, bracket_map kinds.Open kinds.Close SideOf InQuery s (inl q) q (side_in s q) p.0 b, n, p.5)
    go (inr x) b n =
        let f : IsFact s p.0 x = inl (bracket_map kinds.Open kinds.Close SideOf InExpr s (inr x) x (side_ex s x) p.0 b) in
        inr (to_exprs (λ z. Nothing (conds.Compare c e z)) s ts y (p.0, p.1, x, f, n, p.5))
to_compared e c s ts y (inr p) = inr (to_exprs (λ z. Nothing (conds.Compare c e z)) s ts y (p.0, p.1, p.2, inr p.3, p.4, p.5))

of_compared : (e : Expr) (c : Comparison) → Within (RightSide e c) (Compared e c)
of_compared e c s ts y (inl p) = inl (p.0, p.1, inl p.2, bracket_map kinds.Open kinds.Close InQuery SideOf s p.2 (inl p.2) (λ u z. inl (made_is (λ q. inl q) InQuery s u p.2 z)) p.0 p.3, p.4, p.5)
of_compared e c s ts y (inr p) = let q = of_exprs (λ z. Nothing (conds.Compare c e z)) s ts y p in go q q.3
  where
    go : (q : Seq IsFact (λ x. Made (conds.Compare c e) (Rest x)) s ts y) → IsFact s q.0 q.2 → Compared e c s ts y
    go q (inl b) = inl (q.0, q.1, inr q.2, bracket_map kinds.Open kinds.Close InExpr SideOf s q.2 (inr q.2) (λ u z. inr (made_is (λ x. inr x) InExpr s u q.2 z)) q.0 b, q.4, q.5)
    go q (inr b) = inr (q.0, q.1, q.2, b, q.4, q.5)

compared_reads : {b : Bool} {d : ℕ} {w : Readers} → Ready d w → (e : Expr) (c : Comparison) → IsReaderOf b d (compared_at w e c) (RightSide e c) false in_fact after_expr
unfolding compared_at
compared_reads r e c = wide _ _ refl refl refl (same_reads (RightSide e c) (to_compared e c) (of_compared e c) (pick_reads (then_reads (parens_reads r (record { reads = λ b d l. side_reads l }) refl) (compared_on_reads r e c) refl)
    (then_reads (plain_reads r) (λ x. made_reads (conds.Compare c e) (rest_reads r x)) refl) refl))

pub pred_reads : {b : Bool} {d : ℕ} {w : Readers} → Ready d w → (e : Expr) → IsReaderOf b d (pred_at w e) (IsPred e) false in_pred after_expr
unfolding pred_at
pred_reads r e = wide _ _ refl refl refl (pick_reads (then_reads comparison_reads (compared_reads r e) refl)
    (pick_reads (after_reads kinds.Is refl (null_test_reads e)) (pick_reads (after_reads kinds.Not refl (made_reads conds.Not (range_reads r e))) (range_reads r e) refl) refl) refl)

abbrev MayPred : Expr → Lang Mixed
MayPred x = Either (Made (λ c. inl c) (IsPred x)) (Nothing (inr x))

may_pred_reads : {b : Bool} {d : ℕ} {w : Readers} → Ready d w → (x : Expr) → IsReaderOf b d (may_pred w x) (MayPred x) true in_pred after_prim
unfolding may_pred
may_pred_reads r x = wide _ _ refl refl refl (pick_reads (made_reads (λ c. inl c) (pred_reads r x)) (give_reads (inr x)) refl)

-- ---- primary conditions

abbrev Behind : {M : Type 0} → (Cond → M) → (Expr → Lang M) → Mixed → Lang M
Behind f Last (inl c) = Nothing (f c)
Behind f Last (inr x) = Seq (Rest x) Last

abbrev IsExists : Lang Cond
IsExists = After kinds.Exists (Made conds.Exists (Parens InQuery))

abbrev PrimWith : {M : Type 0} → (Cond → M) → (Expr → Lang M) → Lang M
PrimWith f Last = Either (Made f IsExists)
    (Either (Seq (Parens InMixed) (Behind f Last)) (Seq Plain (λ x. Seq (Rest x) Last)))

abbrev in_behind : Kinds
in_behind = in_rest ++ in_pred

behind_reads : {b : Bool} {d : ℕ} {w : Readers} → Ready d w → {M : Type 0} (f : Cond → M) (last : Expr → Reader M) (Last : Expr → Lang M) → ((x : Expr) → IsReaderOf b d (seq (rest_at w x) last) (Seq (Rest x) Last) true in_behind after_prim)
    → (m : Mixed) → IsReaderOf b d (behind w f last m) (Behind f Last m) true in_behind after_prim
behind_reads r f last Last tail (inl c) = wide _ _ refl refl refl (give_reads (f c))
behind_reads r f last Last tail (inr x) = tail x

exists_reads : {b : Bool} {d : ℕ} {w : Readers} → Ready d w → IsReaderOf b d (exists_at w) IsExists false (only kinds.Exists) []
unfolding exists_at
exists_reads r = after_reads kinds.Exists refl (made_reads conds.Exists (parens_reads r (record { reads = λ b d l. l.query }) refl))

abbrev in_prim : Kinds
in_prim = only kinds.Exists ++ in_fact

prim_with_reads : {b : Bool} {d : ℕ} {w : Readers} → Ready d w → {M : Type 0} (f : Cond → M) (last : Expr → Reader M) (Last : Expr → Lang M) → ((x : Expr) → IsReaderOf b d (seq (rest_at w x) last) (Seq (Rest x) Last) true in_behind after_prim)
    → IsReaderOf b d (prim_with w f last) (PrimWith f Last) false in_prim after_prim
unfolding prim_with
prim_with_reads r f last Last tail = wide _ _ refl refl refl (
    pick_reads (made_reads f (exists_reads r))
    (pick_reads (then_reads (parens_reads r (record { reads = λ b d l. l.mixed }) refl) (behind_reads r f last Last tail) refl)
    (then_reads (plain_reads r) tail refl) refl) refl)

-- what PrimWith spells
abbrev Spread : {M : Type 0} → (Cond → M) → (Expr → Lang M) → Lang M
Spread f Last = Either (Made f (Parens InCond)) (Either (Made f IsExists) (Seq IsExpr Last))

to_spread : {M : Type 0} (f : Cond → M) (Last : Expr → Lang M) → Within (PrimWith f Last) (Spread f Last)
to_spread f Last s ts y (inl p) = inr (inl p)
to_spread f Last s ts y (inr (inl p)) = go p.2 p.3 p.4
  where
    go : (m : Mixed) → Parens InMixed s p.0 m → Behind f Last m s p.1 y → Spread f Last s ts y
    go (inl c) b q = inl (p.0, p.1, c, bracket_map kinds.Open kinds.Close InMixed InCond s (inl c) c (λ u z. z) p.0 b, q, p.5)
    go (inr x) b q =
        let t : IsFact s p.0 x = inl (bracket_map kinds.Open kinds.Close InMixed InExpr s (inr x) x (λ u z. z) p.0 b) in
        inr (inr (to_exprs Last s ts y (p.0, p.1, x, t, q, p.5)))
to_spread f Last s ts y (inr (inr p)) = inr (inr (to_exprs Last s ts y (p.0, p.1, p.2, inr p.3, p.4, p.5)))

of_spread : {M : Type 0} (f : Cond → M) (Last : Expr → Lang M) → Within (Spread f Last) (PrimWith f Last)
of_spread f Last s ts y (inl p) = inr (inl (p.0, p.1, inl p.2, bracket_map kinds.Open kinds.Close InCond InMixed s p.2 (inl p.2) (λ u z. z) p.0 p.3, p.4, p.5))
of_spread f Last s ts y (inr (inl p)) = inl p
of_spread f Last s ts y (inr (inr p)) = let q = of_exprs Last s ts y p in go q q.3
  where
    go : (q : Seq IsFact (λ x. Seq (Rest x) Last) s ts y) → IsFact s q.0 q.2 → PrimWith f Last s ts y
    go q (inl b) = inr (inl (q.0, q.1, inr q.2, bracket_map kinds.Open kinds.Close InExpr InMixed s q.2 (inr q.2) (λ u z. z) q.0 b, q.4, q.5))
    go q (inr b) = inr (inr (q.0, q.1, q.2, b, q.4, q.5))

-- made by nothing
pub unmade : {A : Type 0} (P : Lang A) (s : Below) (ts : List Token) (y : A) → Made (λ x. x) P s ts y → P s ts y
unmade P s ts y p = let m = made_of (λ x. x) P s ts y p in subst (λ z. P s ts z) (sym m.2) m.1

prim_into : Within (PrimWith (λ c. c) IsPred) IsPrim
prim_into s ts y p = elim (to_spread (λ c. c) IsPred s ts y p) [
  | inl q ↦ inl (unmade (Parens InCond) s ts y q)
  | inr (inl q) ↦ inr (inl (unmade IsExists s ts y q))
  | inr (inr q) ↦ inr (inr q)
]

prim_back : Within IsPrim (PrimWith (λ c. c) IsPred)
prim_back s ts y (inl p) = of_spread (λ c. c) IsPred s ts y (inl (made_is (λ c. c) (Parens InCond) s ts y p))
prim_back s ts y (inr (inl p)) = of_spread (λ c. c) IsPred s ts y (inr (inl (made_is (λ c. c) IsExists s ts y p)))
prim_back s ts y (inr (inr p)) = of_spread (λ c. c) IsPred s ts y (inr (inr p))

abbrev one_of : Cond → Mixed
one_of c = inl c

may_into : Within (PrimWith (λ c. inl c) MayPred) (MixedOf IsPrim IsExpr)
may_into s ts y p = elim (to_spread (λ c. inl c) MayPred s ts y p) [
  | inl q ↦ let m = made_of one_of (Parens InCond) s ts y q in subst (λ (z : Mixed). MixedOf IsPrim IsExpr s ts z) (sym m.2) (inl m.1)
  | inr (inl q) ↦ let m = made_of one_of IsExists s ts y q in subst (λ (z : Mixed). MixedOf IsPrim IsExpr s ts z) (sym m.2) (inr (inl m.1))
  | inr (inr q) ↦ elim q.4 [
    | inl m ↦ let n = made_of one_of (IsPred q.2) s q.1 y m in subst (λ (z : Mixed). MixedOf IsPrim IsExpr s ts z) (sym n.2) (inr (inr (q.0, q.1, q.2, q.3, n.1, q.5)))
    | inr n ↦ subst (λ (z : Mixed). MixedOf IsPrim IsExpr s ts z) (sym n.1) (subst (λ (u : List Token). IsExpr s u q.2) (ends ts q.0 q.1 q.5 n.0) q.3)
  ]
]

may_back : Within (MixedOf IsPrim IsExpr) (PrimWith (λ c. inl c) MayPred)
may_back s ts (inl c) (inl p) = of_spread (λ c. inl c) MayPred s ts (inl c) (inl (made_is one_of (Parens InCond) s ts c p))
may_back s ts (inl c) (inr (inl p)) = of_spread (λ c. inl c) MayPred s ts (inl c) (inr (inl (made_is one_of IsExists s ts c p)))
may_back s ts (inl c) (inr (inr p)) = of_spread (λ c. inl c) MayPred s ts (inl c) (inr (inr (p.0, p.1, p.2, p.3, inl (made_is one_of (IsPred p.2) s p.1 c p.4), p.5)))
may_back s ts (inr x) p = of_spread (λ c. inl c) MayPred s ts (inr x) (inr (inr (ts, [], x, p, inr (refl, refl), sym (nil ts))))

pub prim_reads : {b : Bool} {d : ℕ} {w : Readers} → Ready d w → IsReaderOf b d (prim_at w) IsPrim false in_prim after_prim
unfolding prim_at
prim_reads {b} {d} {w} r = same_reads IsPrim prim_into prim_back (prim_with_reads r (λ c. c) (pred_at w) IsPred (λ x. wide _ _ refl refl refl (then_reads (rest_reads r x) (pred_reads r) refl)))

may_prim_reads : {b : Bool} {d : ℕ} {w : Readers} → Ready d w → IsReaderOf b d (may_prim w) (MixedOf IsPrim IsExpr) false in_prim after_prim
unfolding may_prim
may_prim_reads {b} {d} {w} r = same_reads (MixedOf IsPrim IsExpr) may_into may_back (prim_with_reads r (λ c. inl c) (may_pred w) MayPred (λ x. wide _ _ refl refl refl (then_reads (rest_reads r x) (may_pred_reads r) refl)))

-- ---- NOT, AND, OR

neg_reads : {b : Bool} {d : ℕ} {w : Readers} → Ready d w → IsReaderOf b d (neg_at w) IsNeg false in_cond after_prim
unfolding neg_at
neg_reads r = wide _ _ refl refl refl (pick_reads (after_reads kinds.Not refl (made_reads conds.Not (prim_reads r))) (prim_reads r) refl)

abbrev AndOn : Cond → Lang Cond
AndOn x = Made (ands x) (Many (After kinds.And IsNeg))

abbrev OrOn : Cond → Lang Cond
OrOn x = Made (ors x) (Many (After kinds.Or IsConj))

abbrev after_and : Kinds
after_and = after_prim ++ only kinds.And

and_on_reads : {b : Bool} {d : ℕ} {w : Readers} → Ready d w → (x : Cond) → IsReaderOf b d (and_on w x) (AndOn x) true (only kinds.And) after_and
unfolding and_on
and_on_reads r x = wide _ _ refl refl refl (made_reads (ands x) (many_reads (after_reads kinds.And refl (neg_reads r)) refl))

conj_reads : {b : Bool} {d : ℕ} {w : Readers} → Ready d w → IsReaderOf b d (conj_at w) IsConj false in_cond after_and
unfolding conj_at
conj_reads r = wide _ _ refl refl refl (then_reads (neg_reads r) (and_on_reads r) refl)

or_on_reads : {b : Bool} {d : ℕ} {w : Readers} → Ready d w → (x : Cond) → IsReaderOf b d (or_on w x) (OrOn x) true (only kinds.Or) after_cond
unfolding or_on
or_on_reads r x = wide _ _ refl refl refl (made_reads (ors x) (many_reads (after_reads kinds.Or refl (conj_reads r)) refl))

pub cond_reads : {b : Bool} {d : ℕ} {w : Readers} → Ready d w → IsReaderOf b d (cond_at w) IsCond false in_cond after_cond
unfolding cond_at
cond_reads r = wide _ _ refl refl refl (then_reads (conj_reads r) (or_on_reads r) refl)

-- ---- a condition or an expression

abbrev MayNeg : Lang Mixed
MayNeg = Either (After kinds.Not (Made (λ c. inl (conds.Not c)) IsPrim)) (MixedOf IsPrim IsExpr)

may_neg_reads : {b : Bool} {d : ℕ} {w : Readers} → Ready d w → IsReaderOf b d (may_neg w) MayNeg false in_cond after_prim
unfolding may_neg
may_neg_reads r = wide _ _ refl refl refl (pick_reads (after_reads kinds.Not refl (made_reads (λ c. inl (conds.Not c)) (prim_reads r))) (may_prim_reads r) refl)

abbrev MixedOn : Mixed → Lang Mixed
MixedOn (inl c) = Seq (AndOn c) (λ x. Made (λ y. inl y) (OrOn x))
MixedOn (inr e) = Nothing (inr e)

abbrev in_mixed_on : Kinds
in_mixed_on = only kinds.And ++ only kinds.Or

mixed_on_reads : {b : Bool} {d : ℕ} {w : Readers} → Ready d w → (m : Mixed) → IsReaderOf b d (mixed_on w m) (MixedOn m) true in_mixed_on after_cond
mixed_on_reads r (inl c) = wide _ _ refl refl refl (then_reads (and_on_reads r c) (λ x. made_reads (λ y. inl y) (or_on_reads r x)) refl)
mixed_on_reads r (inr e) = wide _ _ refl refl refl (give_reads (inr e))

same_cond : (a b : Cond) → one_of a ≡ one_of b → a ≡ b
same_cond a b e = cc

no_cond : (x : Expr) (c : Cond) → ◌≡◌ {A = Mixed} (inr x) (inl c) → ⊥
no_cond x c e = cc

mixed_into : Within (Seq MayNeg MixedOn) (MixedOf IsCond IsExpr)
mixed_into s ts y p = go p.2 p.3 p.4
  where
    negs : (c : Cond) → MayNeg s p.0 (inl c) → IsNeg s p.0 c
    negs c (inl q) = let m = made_of (λ z. one_of (conds.Not z)) IsPrim s q.1 (inl c) q.4 in
        inl (q.0, q.1, q.2, q.3, subst (λ (z : Cond). Made conds.Not IsPrim s q.1 z) (sym (same_cond c (conds.Not m.0) m.2)) (made_is conds.Not IsPrim s q.1 m.0 m.1), q.5)
    negs c (inr q) = inr q

    exprs_only : (x : Expr) → MayNeg s p.0 (inr x) → IsExpr s p.0 x
    exprs_only x (inl q) = let m = made_of (λ z. one_of (conds.Not z)) IsPrim s q.1 (inr x) q.4 in absurd (no_cond x (conds.Not m.0) m.2)
    exprs_only x (inr q) = q

    go : (m : Mixed) → MayNeg s p.0 m → MixedOn m s p.1 y → MixedOf IsCond IsExpr s ts y
    go (inl c) n q =
        let t = made_of one_of (OrOn q.2) s q.1 y q.4 in
        subst (λ (z : Mixed). MixedOf IsCond IsExpr s ts z) (sym t.2)
        (unassoc IsNeg AndOn OrOn s ts t.0 (p.0, p.1, c, negs c n, (q.0, q.1, q.2, q.3, t.1, q.5), p.5))
    go (inr x) n q = subst (λ (z : Mixed). MixedOf IsCond IsExpr s ts z) (sym q.1) (subst (λ (u : List Token). IsExpr s u x) (ends ts p.0 p.1 p.5 q.0) (exprs_only x n))

mixed_back : Within (MixedOf IsCond IsExpr) (Seq MayNeg MixedOn)
mixed_back s ts (inr x) p = (ts, [], inr x, inr p, (refl, refl), sym (nil ts))
mixed_back s ts (inl c) p =
    let q = assoc IsNeg AndOn OrOn s ts c p in
    let t = q.4 in
    (q.0, q.1, inl q.2, negs q.0 q.2 q.3, (t.0, t.1, t.2, t.3, made_is one_of (OrOn t.2) s t.1 c t.4, t.5), q.5)
  where
    negs : (u : List Token) (x : Cond) → IsNeg s u x → MayNeg s u (inl x)
    negs u x (inl n) = let m = made_of conds.Not IsPrim s n.1 x n.4 in
        inl (n.0, n.1, n.2, n.3, subst (λ (z : Cond). Made (λ v. one_of (conds.Not v)) IsPrim s n.1 (one_of z)) (sym m.2) (made_is (λ v. one_of (conds.Not v)) IsPrim s n.1 m.0 m.1), n.5)
    negs u x (inr n) = inr n

pub mixed_reads : {b : Bool} {d : ℕ} {w : Readers} → Ready d w → IsReaderOf b d (mixed_at w) (MixedOf IsCond IsExpr) false in_cond after_cond
unfolding mixed_at
mixed_reads r = wide _ _ refl refl refl (same_reads (MixedOf IsCond IsExpr) mixed_into mixed_back (then_reads (may_neg_reads r) (mixed_on_reads r) refl))
