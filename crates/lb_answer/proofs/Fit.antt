-- The rows that a write makes pass the check of widths and nulls, and the rows that it doesn't take stay.
use Rattle.std.proofs.Common.{arith, ◌≡◌, refl, ap, sym, ◌∙◌, subst, ℕ, zero, suc, ◌+◌, Bool, true, false, not, cond, List, [], ◌∷◌, map, slice_set, Option, Some, None, Ok, Err}
use Rattle.std.specs.Prelude.{filter}
use Rattle.std.specs.List.{position_from}
use Rattle.lb_base.specs.declared.key.Ty.{Ty}
use Rattle.lb_base.specs.declared.key.Ty.TheVariants as types
use Rattle.lb_base.specs.declared.value.Value.{Value}
use Rattle.lb_cat.specs.declared.catalog.ColumnRec.{ColumnRec}
use Rattle.lb_cat.specs.Catalog.{Table, Policy}
use Rattle.lb_answer.specs.OrRefused.{all_made}
use Rattle.lb_cat.specs.OrRefused.{OrRefused, ◌>>=◌}
use Rattle.lb_answer.specs.Basis.{Basis}
use Rattle.lb_answer.specs.Candidates.{Marked}
use Rattle.lb_answer.specs.Checks.{values_fit, value_fits, row_fits, is_label_type, label_place, label_at, new_row, made, old_writable, labelled, labelled_at, stored_label, masks_show_own, is_allowed}
use Rattle.lb_answer.specs.Laws.{Fits, Stay, OthersStay, beside}

abbrev Row : Type 0
Row = List Value

pub record Got {A B : Type 0} (out : OrRefused A) (f : A → OrRefused B) (y : B) : Type 0 where
  pub it : A
  pub is : out ≡ Ok it
  pub then : f it ≡ Ok y

got : {A B : Type 0} (out : OrRefused A) (f : A → OrRefused B) (y : B) → (out >>= f) ≡ Ok y → Got out f y
got (Ok x) f y h = record { it = x; is = refl; then = h }
got (Err e) f y h = absurd cc

abbrev row_of : OrRefused Row → Row
row_of (Ok x) = x
row_of (Err e) = []

-- ---- the label column is passed over

abbrev is_label : ColumnRec → Bool
is_label c = is_label_type c.ty

abbrev label_stands : List ColumnRec → ℕ → Bool
label_stands [] p = false
label_stands (c ∷ cs) zero = is_label c
label_stands (c ∷ cs) (suc p) = label_stands cs p

record Found (at : ℕ) (cs : List ColumnRec) (p : ℕ) : Type 0 where
  ahead : ℕ
  is : p ≡ at + ahead
  stands : label_stands cs ahead ≡ true

abbrev place_or : ℕ → Option ℕ → ℕ
place_or d (Some p) = p
place_or d None = d

found_on : (at : ℕ) (c : ColumnRec) (cs : List ColumnRec) (p : ℕ) (b : Bool) → is_label c ≡ b → cond b (Some at) (position_from is_label (at + 1) cs) ≡ Some p
    → (position_from is_label (at + 1) cs ≡ Some p → Found (at + 1) cs p) → Found at (c ∷ cs) p
found_on at c cs p true e h go = let k : at ≡ p = ap (place_or at) h in record { ahead = 0; is = grind (k, arith); stands = e }
found_on at c cs p false e h go = let f = go h in let k : p ≡ (at + 1) + f.ahead = f.is in record { ahead = suc f.ahead; is = grind (k, arith); stands = f.stands }

found : (at : ℕ) (cs : List ColumnRec) (p : ℕ) → position_from is_label at cs ≡ Some p → Found at cs p
found at [] p h = absurd cc
found at (c ∷ cs) p h = found_on at c cs p (is_label c) refl h (found (at + 1) cs p)

module _ (t : Table) where
  any_label : (at : ℕ) (c : ColumnRec) (ty : Ty) (u v : Value) → is_label_type ty ≡ true → value_fits t at c ty u ≡ value_fits t at c ty v
  any_label at c (types.Label policy) u v h = refl
  any_label at c types.Int u v h = absurd cc
  any_label at c (types.Text n) u v h = absurd cc
  any_label at c types.Date u v h = absurd cc

  set_label : (at : ℕ) (cs : List ColumnRec) (p : ℕ) (row : Row) (l : Value) → label_stands cs p ≡ true → values_fit t at cs (slice_set row p l) ≡ values_fit t at cs row
  set_label at [] p row l h = absurd cc
  set_label at (c ∷ cs) zero [] l h = refl
  set_label at (c ∷ cs) (suc p) [] l h = refl
  set_label at (c ∷ cs) zero (v ∷ row) l h = ap (λ out. out >>= λ passed. values_fit t (suc at) cs row) (any_label at c c.ty l v h)
  set_label at (c ∷ cs) (suc p) (v ∷ row) l h = ap (λ out. value_fits t at c c.ty v >>= λ passed. out) (set_label (suc at) cs p row l h)

  set_at_label : (p : ℕ) (row : Row) (l : Value) → label_place t ≡ Some p → row_fits t (slice_set row p l) ≡ row_fits t row
  set_at_label p row l h = let f = found 0 t.columns p h in let k : f.ahead ≡ p = grind (f.is, arith) in
      subst (λ q. row_fits t (slice_set row q l) ≡ row_fits t row) k (set_label 0 t.columns f.ahead row l f.stands)

  module _ {S : Type 0} (p : Option Policy) (b : Basis S) where
    labelled_fits : (place : Option ℕ) (row new : Row) → label_place t ≡ place → labelled_at p b t place row ≡ Ok new → row_fits t new ≡ row_fits t row
    labelled_fits None row new at h = ap (λ out. row_fits t (row_of out)) (sym h)
    labelled_fits (Some place) row new at h = let g = got (stored_label p b t (label_at place row)) (λ l. Ok (slice_set row place l)) new h in
        ap (λ out. row_fits t (row_of out)) (sym g.then) ∙ set_at_label place row g.it at

    pub new_row_fits : (places : List ℕ) (old : Option Row) (source : S) (new : Row) → Fits p b t places old source new
    new_row_fits places old source new h =
        let a = got (made p b t places old source) (λ row. row_fits t row >>= λ one. old_writable p b t old >>= λ two. labelled p b t row >>= λ new. masks_show_own p b t source >>= λ four. is_allowed p b t new >>= λ five. Ok new) new h in
        let k = got (row_fits t a.it) (λ one. old_writable p b t old >>= λ two. labelled p b t a.it >>= λ new. masks_show_own p b t source >>= λ four. is_allowed p b t new >>= λ five. Ok new) new a.then in
        let c = got (old_writable p b t old) (λ two. labelled p b t a.it >>= λ new. masks_show_own p b t source >>= λ four. is_allowed p b t new >>= λ five. Ok new) new k.then in
        let d = got (labelled p b t a.it) (λ new. masks_show_own p b t source >>= λ four. is_allowed p b t new >>= λ five. Ok new) new c.then in
        let e = got (masks_show_own p b t source) (λ four. is_allowed p b t d.it >>= λ five. Ok d.it) new d.then in
        let f = got (is_allowed p b t d.it) (λ five. Ok d.it) new e.then in
        ap (λ out. row_fits t (row_of out)) (sym f.then) ∙ labelled_fits (label_place t) a.it d.it refl d.is ∙ k.is

-- ---- the rows that aren't taken stay

record Begins (out : OrRefused Row) (outs : List (OrRefused Row)) (ys : List Row) : Type 0 where
  x : Row
  xs : List Row
  one : out ≡ Ok x
  rest : all_made outs ≡ Ok xs
  is : x ∷ xs ≡ ys

abbrev rows_of : OrRefused (List Row) → List Row
rows_of (Ok xs) = xs
rows_of (Err e) = []

begins : (out : OrRefused Row) (outs : List (OrRefused Row)) (ys : List Row) → all_made (out ∷ outs) ≡ Ok ys → Begins out outs ys
begins out outs ys h =
    let a = got out (λ v. all_made outs >>= λ vs. Ok (v ∷ vs)) ys h in
    let b = got (all_made outs) (λ vs. Ok (a.it ∷ vs)) ys a.then in
    record { x = a.it; xs = b.it; one = a.is; rest = b.is; is = ap rows_of b.then }

module _ (f : Marked → OrRefused Row) where
  abbrev renew : Marked → OrRefused Row
  renew m = cond m.taken (f m) (Ok m.row)

  stay_on : (m : Marked) (b : Bool) (ms : List Marked) (x : Row) (xs : List Row) → m.taken ≡ b → cond b (f m) (Ok m.row) ≡ Ok x → Stay ms xs
      → cond b (beside ms xs) (x ∷ beside ms xs) ≡ map (λ n. n.row) (cond (not b) (m ∷ filter (λ n. not n.taken) ms) (filter (λ n. not n.taken) ms))
  stay_on m true ms x xs e h s = s.others
  stay_on m false ms x xs e h s = λ i. row_of (sym h i) ∷ s.others i

  stay : (ms : List Marked) (news : List Row) → all_made (map renew ms) ≡ Ok news → Stay ms news
  stay [] news h = subst (Stay []) (ap rows_of h) (record { many = refl; others = refl })
  stay (m ∷ ms) news h = let b = begins (renew m) (map renew ms) news h in let s = stay ms b.xs b.rest in
      subst (Stay (m ∷ ms)) b.is (record { many = ap suc s.many; others = stay_on m m.taken ms b.x b.xs refl b.one s })

pub others_stay : (p : Option Policy) (b : Basis Row) (t : Table) (places : List ℕ) (marks : List Marked) (news : List Row) → OthersStay p b t places marks news
others_stay p b t places marks news h = stay (λ m. new_row p b t places (Some m.row) m.row) marks news h
