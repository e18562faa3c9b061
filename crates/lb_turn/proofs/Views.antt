-- Lists of views: their parts and tickets added up, and whose the places are, as single views change.
use Rattle.std.proofs.Common.{◌≡◌, ◌≢◌, ◌⊎◌, inl, inr, ⊎_elim, ℕ, zero, suc, ◌+◌, ◌<◌, ◌≤◌, List, [], ◌∷◌, ◌++◌, length, set, refl, sym, ap, ◌∙◌, subst, arith}
use mathlib.Core.Logic.{dite}
use mathlib.Core.Option.{some, some-ne-none, some-injective}
use native.Mathlib.Decide.{ℕ_discrete}
use lib.ListN.{get_elem?}
use Rattle.atomic_table.proofs.Lists.{at_set, set_here, set_else, at_longer, at_last}
use Rattle.lb_turn.specs.declared.rule.View.{View}
use Rattle.lb_turn.specs.Rule.{ticketed, shares, out, Owns, AreDisjoint, AreOwned}

module _ {N : Type 0} where
  pub out_set : (vs : List (View N)) (i : ℕ) (v w : View N) → get_elem? vs i ≡ some v → out (set vs i w) + ticketed v.role ≡ out vs + ticketed w.role
  out_set [] i v w e = absurd (some-ne-none v (sym e))
  out_set (x ∷ xs) zero v w e = let same : ticketed x.role ≡ ticketed v.role = ap (λ u. ticketed u.role) (some-injective x v e) in omega arith
  out_set (x ∷ xs) (suc i) v w e = let rest = out_set xs i v w e in omega arith

  pub shares_set : (vs : List (View N)) (i : ℕ) (v w : View N) → get_elem? vs i ≡ some v → shares (set vs i w) + v.parts ≡ shares vs + w.parts
  shares_set [] i v w e = absurd (some-ne-none v (sym e))
  shares_set (x ∷ xs) zero v w e = let same : x.parts ≡ v.parts = ap (λ u. u.parts) (some-injective x v e) in omega arith
  shares_set (x ∷ xs) (suc i) v w e = let rest = shares_set xs i v w e in omega arith

  pub shares_snoc : (vs : List (View N)) (v : View N) → shares (vs ++ v ∷ []) ≡ shares vs + v.parts
  shares_snoc [] v = omega arith
  shares_snoc (x ∷ xs) v = omega (arith, shares_snoc xs v)

  pub out_snoc : (vs : List (View N)) (v : View N) → out (vs ++ v ∷ []) ≡ out vs + ticketed v.role
  out_snoc [] v = omega arith
  out_snoc (x ∷ xs) v = omega (arith, out_snoc xs v)

  pub out_le : (vs : List (View N)) → ((i : ℕ) (v : View N) → get_elem? vs i ≡ some v → ticketed v.role ≤ v.parts) → out vs ≤ shares vs
  out_le [] all = omega arith
  out_le (x ∷ xs) all = omega (arith, out_le xs (λ i v e. all (suc i) v e), all 0 x refl)

  pub parts_at_most : (vs : List (View N)) (i : ℕ) (v : View N) → get_elem? vs i ≡ some v → v.parts ≤ shares vs
  parts_at_most [] i v e = absurd (some-ne-none v (sym e))
  parts_at_most (x ∷ xs) zero v e = let same : x.parts ≡ v.parts = ap (λ u. u.parts) (some-injective x v e) in omega arith
  parts_at_most (x ∷ xs) (suc i) v e = omega (arith, parts_at_most xs i v e)

  pub two_at_most : (vs : List (View N)) (i j : ℕ) (v u : View N) → j ≢ i → get_elem? vs i ≡ some v → get_elem? vs j ≡ some u → v.parts + u.parts ≤ shares vs
  two_at_most [] i j v u apart a b = absurd (some-ne-none v (sym a))
  two_at_most (x ∷ xs) zero zero v u apart a b = absurd (apart refl)
  two_at_most (x ∷ xs) zero (suc j) v u apart a b = let same : x.parts ≡ v.parts = ap (λ w. w.parts) (some-injective x v a) in omega (arith, parts_at_most xs j u b)
  two_at_most (x ∷ xs) (suc i) zero v u apart a b = let same : x.parts ≡ u.parts = ap (λ w. w.parts) (some-injective x u b) in omega (arith, parts_at_most xs i v a)
  two_at_most (x ∷ xs) (suc i) (suc j) v u apart a b = omega (arith, two_at_most xs i j v u (λ e. apart (ap suc e)) a b)

  pub inside : (vs : List (View N)) (i : ℕ) (v : View N) → get_elem? vs i ≡ some v → i < length vs
  inside [] i v e = absurd (some-ne-none v (sym e))
  inside (x ∷ xs) zero v e = omega arith
  inside (x ∷ xs) (suc i) v e = omega (arith, inside xs i v e)

  pub same_view : (vs : List (View N)) (id j : ℕ) (v u : View N) → get_elem? vs id ≡ some v → get_elem? vs j ≡ some u → j ≡ id → u ≡ v
  same_view vs id j v u at e one = some-injective u v (sym e ∙ (ap (get_elem? vs) one ∙ at))

  -- the new view stands where the old one stood
  pub set_there : (vs : List (View N)) (id : ℕ) (v w : View N) → get_elem? vs id ≡ some v → get_elem? (set vs id w) id ≡ some w
  set_there vs id v w at = set_here vs id w (inside vs id v at)

  -- a fact of each view, once one of them has changed
  pub each_set : (F : ℕ → View N → Type 0) (vs : List (View N)) (id : ℕ) (w : View N) → F id w → ((j : ℕ) (u : View N) → j ≢ id → get_elem? vs j ≡ some u → F j u)
      → (j : ℕ) (u : View N) → get_elem? (set vs id w) j ≡ some u → F j u
  each_set F vs id w mine others j u e = ⊎_elim
      (λ (x : (j ≡ id) × (w ≡ u)). subst (λ (y : ℕ × View N). F y.0 y.1) (λ i. (sym x.0 i, x.1 i)) mine)
      (λ (x : (j ≢ id) × (get_elem? vs j ≡ some u)). others j u x.0 x.1)
      (at_set vs id j w u e)

  -- no view but that of one seat has this place
  abbrev pub IsFree : List (View N) → ℕ → ℕ → Type 0
  IsFree vs id place = (j : ℕ) (u : View N) → j ≢ id → get_elem? vs j ≡ some u → Owns u place → ⊥

  pub disjoint_set : (vs : List (View N)) (id : ℕ) (v w : View N) → get_elem? vs id ≡ some v → ((place : ℕ) → Owns w place → Owns v place ⊎ IsFree vs id place)
      → AreDisjoint vs → AreDisjoint (set vs id w)
  disjoint_set vs id v w at mine apart i j place x y ei ej ox oy =
      ⊎_elim
      (λ (a : (i ≡ id) × (w ≡ x)). ⊎_elim
      (λ (b : (j ≡ id) × (w ≡ y)). a.0 ∙ sym b.0)
      (λ (b : (j ≢ id) × (get_elem? vs j ≡ some y)). ⊎_elim
      (λ own. a.0 ∙ apart id j place v y at b.1 own oy)
      (λ free. absurd (free j y b.0 b.1 oy))
      (mine place (subst (λ u. Owns u place) (sym a.1) ox)))
      (at_set vs id j w y ej))
      (λ (a : (i ≢ id) × (get_elem? vs i ≡ some x)). ⊎_elim
      (λ (b : (j ≡ id) × (w ≡ y)). ⊎_elim
      (λ own. apart i id place x v a.1 at ox own ∙ sym b.0)
      (λ free. absurd (free i x a.0 a.1 ox))
      (mine place (subst (λ u. Owns u place) (sym b.1) oy)))
      (λ (b : (j ≢ id) × (get_elem? vs j ≡ some y)). apart i j place x y a.1 b.1 ox oy)
      (at_set vs id j w y ej))
      (at_set vs id i w x ei)

  pub owned_set : (vs : List (View N)) (id count : ℕ) (v w : View N) → get_elem? vs id ≡ some v → ((place : ℕ) → Owns v place → Owns w place) → AreOwned vs count → AreOwned (set vs id w) count
  owned_set vs id count v w at keeps all place lt =
      let o = all place lt in
      dite (ℕ_discrete o.0 id)
      (λ same. (id, w, set_there vs id v w at, keeps place (subst (λ u. Owns u place) (same_view vs id o.0 v o.1 at o.2 same) o.3)))
      (λ apart. (o.0, o.1, set_else vs id o.0 w apart ∙ o.2, o.3))

  at_end : (vs : List (View N)) (g u : View N) (j : ℕ) → get_elem? (vs ++ g ∷ []) j ≡ some u → (get_elem? vs j ≡ some u) ⊎ ((j ≡ length vs) × (g ≡ u))
  at_end [] g u zero e = inr (refl, some-injective g u e)
  at_end [] g u (suc k) e = absurd (some-ne-none u (sym e))
  at_end (x ∷ xs) g u zero e = inl e
  at_end (x ∷ xs) g u (suc k) e = ⊎_elim (λ t. inl t) (λ t. let last = t.0 in inr (omega arith, t.1)) (at_end xs g u k e)

  -- a seat shares its places with a new one
  module _ (vs : List (View N)) (id : ℕ) (v w g : View N) (at : get_elem? vs id ≡ some v) where
    crossed : ((place : ℕ) → Owns g place → Owns v place) → ((place : ℕ) → Owns w place → Owns g place → ⊥) → AreDisjoint vs
        → (place k : ℕ) (z : View N) → get_elem? (set vs id w) k ≡ some z → Owns z place → Owns g place → ⊥
    crossed right off apart place k z e oz og = ⊎_elim
        (λ (m : (k ≡ id) × (w ≡ z)). off place (subst (λ u. Owns u place) (sym m.1) oz) og)
        (λ (m : (k ≢ id) × (get_elem? vs k ≡ some z)). m.0 (apart k id place z v m.1 at oz (right place og)))
        (at_set vs id k w z e)

    pub disjoint_split : ((place : ℕ) → Owns w place → Owns v place) → ((place : ℕ) → Owns g place → Owns v place) → ((place : ℕ) → Owns w place → Owns g place → ⊥)
        → AreDisjoint vs → AreDisjoint (set vs id w ++ g ∷ [])
    disjoint_split left right off apart i j place x y ei ej ox oy = ⊎_elim
        (λ (a : get_elem? (set vs id w) i ≡ some x). ⊎_elim
        (λ (b : get_elem? (set vs id w) j ≡ some y). disjoint_set vs id v w at (λ p o. inl (left p o)) apart i j place x y a b ox oy)
        (λ (b : (j ≡ length (set vs id w)) × (g ≡ y)). absurd (crossed right off apart place i x a ox (subst (λ u. Owns u place) (sym b.1) oy)))
        (at_end (set vs id w) g y j ej))
        (λ (a : (i ≡ length (set vs id w)) × (g ≡ x)). ⊎_elim
        (λ (b : get_elem? (set vs id w) j ≡ some y). absurd (crossed right off apart place j y b oy (subst (λ u. Owns u place) (sym a.1) ox)))
        (λ (b : (j ≡ length (set vs id w)) × (g ≡ y)). a.0 ∙ sym b.0)
        (at_end (set vs id w) g y j ej))
        (at_end (set vs id w) g x i ei)

    pub owned_split : (count : ℕ) → ((place : ℕ) → Owns v place → Owns w place ⊎ Owns g place) → AreOwned vs count → AreOwned (set vs id w ++ g ∷ []) count
    owned_split count share all place lt =
        let o = all place lt in
        dite (ℕ_discrete o.0 id)
        (λ same. ⊎_elim
        (λ c. (id, w, at_longer (set vs id w) (g ∷ []) id w (set_there vs id v w at), c))
        (λ c. (length (set vs id w), g, at_last (set vs id w) g (length (set vs id w)) refl, c))
        (share place (subst (λ u. Owns u place) (same_view vs id o.0 v o.1 at o.2 same) o.3)))
        (λ apart. (o.0, o.1, at_longer (set vs id w) (g ∷ []) o.0 o.1 (set_else vs id o.0 w apart ∙ o.2), o.3))

  -- one seat takes another's places, and the other has none
  module _ (vs : List (View N)) (id other : ℕ) (v u w spent : View N) (at : get_elem? vs id ≡ some v) (there : get_elem? vs other ≡ some u) (off : other ≢ id)
      (none : (place : ℕ) → Owns spent place → ⊥) where
    -- whose place it was
    abbrev Source : ℕ → ℕ → Type 0
    Source place i = (from : ℕ) × (x : View N) × (get_elem? vs from ≡ some x) × Owns x place × ((from ≡ i) ⊎ ((i ≡ id) × (from ≡ other))) × (i ≢ other)

    source : ((place : ℕ) → Owns w place → Owns v place ⊎ Owns u place) → (place i : ℕ) (x : View N) → get_elem? (set (set vs id w) other spent) i ≡ some x → Owns x place → Source place i
    source both place i x e o = ⊎_elim
        (λ (a : (i ≡ other) × (spent ≡ x)). absurd (none place (subst (λ y. Owns y place) (sym a.1) o)))
        (λ (a : (i ≢ other) × (get_elem? (set vs id w) i ≡ some x)). ⊎_elim
        (λ (b : (i ≡ id) × (w ≡ x)). ⊎_elim
        (λ own. let s : Source place i = (id, v, at, own, inl (sym b.0), a.0) in s)
        (λ own. let s : Source place i = (other, u, there, own, inr (b.0, refl), a.0) in s)
        (both place (subst (λ y. Owns y place) (sym b.1) o)))
        (λ (b : (i ≢ id) × (get_elem? vs i ≡ some x)). let s : Source place i = (i, x, b.1, o, inl refl, a.0) in s)
        (at_set vs id i w x a.1))
        (at_set (set vs id w) other i spent x e)

    pub disjoint_join : ((place : ℕ) → Owns w place → Owns v place ⊎ Owns u place) → AreDisjoint vs → AreDisjoint (set (set vs id w) other spent)
    disjoint_join both apart i j place x y ei ej ox oy =
        let a = source both place i x ei ox in
        let b = source both place j y ej oy in
        let one : a.0 ≡ b.0 = apart a.0 b.0 place a.1 b.1 a.2 b.2 a.3 b.3 in
        ⊎_elim
        (λ (p : a.0 ≡ i). ⊎_elim
        (λ (q : b.0 ≡ j). sym p ∙ (one ∙ q))
        (λ (q : (j ≡ id) × (b.0 ≡ other)). absurd (a.5 (sym p ∙ (one ∙ q.1))))
        b.4)
        (λ (p : (i ≡ id) × (a.0 ≡ other)). ⊎_elim
        (λ (q : b.0 ≡ j). absurd (b.5 (sym q ∙ (sym one ∙ p.1))))
        (λ (q : (j ≡ id) × (b.0 ≡ other)). p.0 ∙ sym q.0)
        b.4)
        a.4

    pub owned_join : (count : ℕ) → ((place : ℕ) → Owns v place → Owns w place) → ((place : ℕ) → Owns u place → Owns w place) → AreOwned vs count → AreOwned (set (set vs id w) other spent) count
    owned_join count left right all place lt =
        let o = all place lt in
        let mine : get_elem? (set (set vs id w) other spent) id ≡ some w = set_else (set vs id w) other id spent (λ e. off (sym e)) ∙ set_there vs id v w at in
        dite (ℕ_discrete o.0 other)
        (λ same. (id, w, mine, right place (subst (λ y. Owns y place) (same_view vs other o.0 u o.1 there o.2 same) o.3)))
        (λ apart. dite (ℕ_discrete o.0 id)
        (λ same. (id, w, mine, left place (subst (λ y. Owns y place) (same_view vs id o.0 v o.1 at o.2 same) o.3)))
        (λ apart'. (o.0, o.1, set_else (set vs id w) other o.0 spent apart ∙ (set_else vs id o.0 w apart' ∙ o.2), o.3)))
