-- The row that a candidate makes fits its table.
use Rattle.std.proofs.Common.{ℕ, suc, ◌+◌, ◌≡◌, ◌≤◌, refl, sym, subst, ap, ◌∙◌, Bool, true, false, cond, ◌&&◌, ◌||◌, List, [], ◌∷◌, length, fold, slice_set, Option, Some, None, Ok, Err, arith}
use Rattle.std.specs.Prelude.{count_by, slice_index_or, nat_lt, if◌then◌else◌}
use Rattle.std.specs.List.{AllZip, AllByRecursion, position_from}
use Rattle.std.specs.Option.{option_and_then}
use Rattle.lb_base.specs.declared.key.Ty.{Ty}
use Rattle.lb_base.specs.declared.key.Ty.TheVariants as types
use Rattle.lb_base.specs.declared.value.Value.{Value}
use Rattle.lb_base.specs.declared.value.Value.TheVariants as values
use Rattle.lb_cat.specs.declared.catalog.ColumnRec.{ColumnRec}
use Rattle.lb_cat.specs.declared.refusal.Refusal.{Refusal}
use Rattle.lb_cat.specs.Catalog.{Cat, Table, Policy, policy_named, IsLabelOf}
use Rattle.lb_base.specs.Conditions.{is_null}
use Rattle.lb_mean.specs.Refused.{policy_of_table}
use Rattle.lb_answer.specs.Basis.{Basis}
use Rattle.lb_answer.specs.Checks.{made, begun, written, value_fits, values_fit, row_fits, old_writable, labelled, labelled_at, label_place, label_at, stored_label, masks_show_own, is_allowed}
use Rattle.lb_answer.specs.OrRefused.{Passed, or_refused}
use Rattle.lb_cat.specs.OrRefused.{OrRefused, ◌>>=◌}
use Rattle.lb_alter.specs.ChangeTable.{is_label_type, is_label_column}
use Rattle.lb_alter.specs.Fits.{HasType, FitsColumn, FitsTable}
use Rattle.lb_alter.specs.Labelled.{IsOfPolicy, ColumnBelongs}
use Rattle.lb_alter.proofs.SoundKinds.{not_more}
use Rattle.lb_kinds.specs.HasKind.{HasKind, IfResult}
use Rattle.lb_names.specs.Kinds.{kind_of}
use Rattle.lb_fits.specs.Given.{IsItsLabel, IsNullOrItsLabel, OwnFits, GivesPlaces, ArePlaced, KeepsColumns, OldFits}
use Rattle.lb_fits.specs.Laws.{NewFits}
use Rattle.lb_fits.proofs.Columns.{Loose, begun_fits, written_fits}
use Rattle.lb_fits.proofs.Steps.{got, evaluated, same_ok}
use Rattle.lb_fits.proofs.Stored.{stored_fits}

and_false : (a : Bool) → (a && false) ≡ false
and_false true = refl
and_false false = refl

null_free : (a k : Bool) (r : Refusal) → ◌≡◌ {A = OrRefused Passed} (if (a || k) && true then Err r else Ok tt) (Ok tt) → ((a || false) && true) ≡ false
null_free true k r h = absurd cc
null_free false k r h = refl

narrow : (n width : ℕ) (b : Bool) (r : Refusal) → nat_lt width n ≡ b → ◌≡◌ {A = OrRefused Passed} (if b then Err r else Ok tt) (Ok tt) → n ≤ width
narrow n width true r e h = absurd cc
narrow n width false r e h = not_more width n e

add_zero : (a p k : ℕ) → a ≡ p → p ≡ a + 0
add_zero a p k e = omega (arith, e)

step_on : (at p k : ℕ) → p ≡ (at + 1) + k → p ≡ at + suc k
step_on at p k e = omega (arith, e)

abbrev place_or : ℕ → Option ℕ → ℕ
place_or d (Some p) = p
place_or d None = d

module _ (C : Cat) (t : Table) where
  abbrev P : Option Policy
  P = policy_of_table C t

  -- ---- one value

  -- of a column that isn't the label column
  plain : (at : ℕ) (c : ColumnRec) (ty : Ty) (v : Value) → is_label_type ty ≡ false → HasKind (policy_named C) (kind_of ty) v → value_fits t at c ty v ≡ Ok tt → HasType C ty v × (((c.not_null || is_label_type ty) && is_null v) ≡ false)
  plain at c (types.Label p) v e h f = absurd cc
  plain at c types.Int values.Null e h f = (tt, null_free c.not_null _ _ f)
  plain at c types.Int (values.Int n) e h f = (tt, and_false (c.not_null || false))
  plain at c types.Int (values.Text x) e h f = absurd h
  plain at c types.Int (values.Date x) e h f = absurd h
  plain at c types.Int (values.Label x) e h f = absurd h
  plain at c (types.Text width) values.Null e h f = (tt, null_free c.not_null _ _ f)
  plain at c (types.Text width) (values.Int n) e h f = absurd h
  plain at c (types.Text width) (values.Text x) e h f = (narrow (length x) width (nat_lt width (length x)) _ refl f, and_false (c.not_null || false))
  plain at c (types.Text width) (values.Date x) e h f = absurd h
  plain at c (types.Text width) (values.Label x) e h f = absurd h
  plain at c types.Date values.Null e h f = (tt, null_free c.not_null _ _ f)
  plain at c types.Date (values.Int n) e h f = absurd h
  plain at c types.Date (values.Text x) e h f = absurd h
  plain at c types.Date (values.Date x) e h f = (h, and_false (c.not_null || false))
  plain at c types.Date (values.Label x) e h f = absurd h

  policy_is : (o : Option (List ℕ)) (q : List ℕ) → o ≡ Some q → option_and_then (policy_named C) o ≡ policy_named C q
  policy_is o q e = ap (option_and_then (policy_named C)) e

  -- of the label column
  stored : (c : ColumnRec) (ty : Ty) (l : Value) → is_label_type ty ≡ true → IsOfPolicy t.policy ty → IsItsLabel P l → HasType C ty l × (((c.not_null || is_label_type ty) && is_null l) ≡ false)
  stored c types.Int l e o h = absurd cc
  stored c (types.Text width) l e o h = absurd cc
  stored c types.Date l e o h = absurd cc
  stored c (types.Label q) values.Null e o h = absurd h
  stored c (types.Label q) (values.Int n) e o h = absurd h
  stored c (types.Label q) (values.Text x) e o h = absurd h
  stored c (types.Label q) (values.Date x) e o h = absurd h
  stored c (types.Label q) (values.Label parts) e o h = (subst (λ (p : Option Policy). IsLabelOf p parts.items) (policy_is t.policy q o) h, and_false (c.not_null || true))

  -- what was given for the label column
  given : (ty : Ty) (v : Value) → is_label_type ty ≡ true → IsOfPolicy t.policy ty → HasKind (policy_named C) (kind_of ty) v → IsNullOrItsLabel P v
  given types.Int v e o h = absurd cc
  given (types.Text width) v e o h = absurd cc
  given types.Date v e o h = absurd cc
  given (types.Label q) values.Null e o h = tt
  given (types.Label q) (values.Int n) e o h = absurd h
  given (types.Label q) (values.Text x) e o h = absurd h
  given (types.Label q) (values.Date x) e o h = absurd h
  given (types.Label q) (values.Label parts) e o h = subst (λ (p : Option Policy). IsLabelOf p parts.items) (sym (policy_is t.policy q o)) h

  -- ---- the columns

  -- how many label columns there are
  abbrev Labels : List ColumnRec → ℕ
  Labels [] = 0
  Labels (c ∷ cs) = cond (is_label_column c) 1 0 + Labels cs

  abbrev counted_from : ℕ → List ColumnRec → ℕ
  counted_from s cs = fold (λ a x. a + cond (is_label_column x) 1 0) s cs

  counted : (s : ℕ) (cs : List ColumnRec) → counted_from s cs ≡ s + Labels cs
  counted s [] = omega arith
  counted s (c ∷ cs) = let h : counted_from (s + cond (is_label_column c) 1 0) cs ≡ (s + cond (is_label_column c) 1 0) + Labels cs = counted (s + cond (is_label_column c) 1 0) cs in h ∙ moved s (cond (is_label_column c) 1 0) (Labels cs)
    where
      moved : (s k n : ℕ) → (s + k) + n ≡ s + (k + n)
      moved s k n = omega arith

  few : (cs : List ColumnRec) → count_by is_label_column cs ≤ 1 → Labels cs ≤ 1
  few cs h = let e : count_by is_label_column cs ≡ 0 + Labels cs = counted 0 cs in omega (arith, e, h)

  -- without a label column
  whole_on : (b : Bool) (at : ℕ) (c : ColumnRec) (v : Value) (n : ℕ) → is_label_column c ≡ b → cond b 1 0 + n ≡ 0 → HasKind (policy_named C) (kind_of c.ty) v → value_fits t at c c.ty v ≡ Ok tt → FitsColumn C c v × (n ≡ 0)
  whole_on true at c v n e z h f = absurd (omega (arith, z))
  whole_on false at c v n e z h f = (plain at c c.ty v e h f, omega (arith, z))

  whole : (at : ℕ) (cs : List ColumnRec) (row : List Value) → Loose C cs row → values_fit t at cs row ≡ Ok tt → Labels cs ≡ 0 → AllZip (FitsColumn C) cs row
  whole at [] [] h f z = tt
  whole at [] (v ∷ row) h f z = absurd h
  whole at (c ∷ cs) [] h f z = absurd h
  whole at (c ∷ cs) (v ∷ row) h f z =
      let g = got (value_fits t at c c.ty v) (λ passed. values_fit t (suc at) cs row) tt f in
      let w = whole_on (is_label_column c) at c v (Labels cs) refl z h.0 g.is in
      (w.0, whole (suc at) cs row h.1 g.then w.1)

  none_on : (b : Bool) (at n : ℕ) (rest : Option ℕ) → cond b (Some at) rest ≡ None → (rest ≡ None → n ≡ 0) → cond b 1 0 + n ≡ 0
  none_on true at n rest e go = absurd cc
  none_on false at n rest e go = let z : n ≡ 0 = go e in omega (arith, z)

  none_counted : (at : ℕ) (cs : List ColumnRec) → position_from is_label_column at cs ≡ None → Labels cs ≡ 0
  none_counted at [] e = refl
  none_counted at (c ∷ cs) e = none_on (is_label_column c) at (Labels cs) (position_from is_label_column (at + 1) cs) e (none_counted (at + 1) cs)

  -- with one, at that place
  record At (at : ℕ) (cs : List ColumnRec) (row : List Value) (l : Value) (p : ℕ) : Type 0 where
    ahead : ℕ
    is : p ≡ at + ahead
    given : IsNullOrItsLabel P (slice_index_or row ahead values.Null)
    fits : IsItsLabel P l → AllZip (FitsColumn C) cs (slice_set row ahead l)

  at_on : (b : Bool) (at vat : ℕ) (c : ColumnRec) (cs : List ColumnRec) (v : Value) (row : List Value) (l : Value) (p : ℕ) → is_label_column c ≡ b → cond b (Some at) (position_from is_label_column (at + 1) cs) ≡ Some p
      → cond b 1 0 + Labels cs ≤ 1 → ColumnBelongs C t c → HasKind (policy_named C) (kind_of c.ty) v → Loose C cs row → value_fits t vat c c.ty v ≡ Ok tt → values_fit t (suc vat) cs row ≡ Ok tt
      → (position_from is_label_column (at + 1) cs ≡ Some p → Labels cs ≤ 1 → At (at + 1) cs row l p) → At at (c ∷ cs) (v ∷ row) l p
  at_on true at vat c cs v row l p e q n o h hs f fs go =
      let z : Labels cs ≡ 0 = omega (arith, n) in
      record { ahead = 0; is = add_zero at p 0 (ap (place_or at) q); given = given c.ty v e o.label h; fits = λ i. (stored c c.ty l e o.label i, whole (suc vat) cs row hs fs z) }
  at_on false at vat c cs v row l p e q n o h hs f fs go =
      let m : Labels cs ≤ 1 = omega (arith, n) in
      let r = go q m in
      record { ahead = suc r.ahead; is = step_on at p r.ahead r.is; given = r.given; fits = λ i. (plain vat c c.ty v e h f, r.fits i) }

  at_place : (at vat : ℕ) (cs : List ColumnRec) (row : List Value) (l : Value) (p : ℕ) → position_from is_label_column at cs ≡ Some p → Labels cs ≤ 1 → AllByRecursion (ColumnBelongs C t) cs → Loose C cs row → values_fit t vat cs row ≡ Ok tt → At at cs row l p
  at_place at vat [] row l p e n o h f = absurd cc
  at_place at vat (c ∷ cs) [] l p e n o h f = absurd h
  at_place at vat (c ∷ cs) (v ∷ row) l p e n o h f =
      let g = got (value_fits t vat c c.ty v) (λ passed. values_fit t (suc vat) cs row) tt f in
      at_on (is_label_column c) at vat c cs v row l p refl e n o.0 h.0 h.1 g.is g.then (λ q m. at_place (at + 1) (suc vat) cs row l p q m o.1 h.1 g.then)

  no_more : (a p : ℕ) → p ≡ 0 + a → a ≡ p
  no_more a p e = omega (arith, e)

  module _ {S : Type 0} (b : Basis S) (keeps : KeepsColumns C t) (own : OwnFits P b.own_label) where
    labelled_fits : (place : Option ℕ) (row new : List Value) → label_place t ≡ place → Loose C t.columns row → row_fits t row ≡ Ok tt → labelled_at P b t place row ≡ Ok new → FitsTable C t new
    labelled_fits None row new e h f g = subst (FitsTable C t) (same_ok row new g) (whole 0 t.columns row h f (none_counted 0 t.columns e))
    labelled_fits (Some place) row new e h f g =
        let s = got (stored_label P b t (label_at place row)) (λ l. Ok (slice_set row place l)) new g in
        let a = at_place 0 0 t.columns row s.it place e (few t.columns keeps.one) keeps.belonging h f in
        let k : a.ahead ≡ place = no_more a.ahead place a.is in
        let i : IsNullOrItsLabel P (label_at place row) = subst (λ (n : ℕ). IsNullOrItsLabel P (slice_index_or row n values.Null)) k a.given in
        let j : IsItsLabel P s.it = stored_fits P b t (label_at place row) s.it own i s.is in
        subst (FitsTable C t) (ap (λ (n : ℕ). slice_set row n s.it) k ∙ same_ok (slice_set row place s.it) new s.then) (a.fits j)

    made_fits : (places : List ℕ) (old : Option (List Value)) (source : S) (row : List Value) → OldFits C t old → GivesPlaces C t places (b.values source) → made P b t places old source ≡ Ok row → Loose C t.columns row
    made_fits places old source row h g e =
        let m = got (or_refused (b.values source)) (λ vs. Ok (written places vs (begun t old))) row e in
        let vs : ArePlaced C t places m.it = subst (IfResult (ArePlaced C t places)) (evaluated (b.values source) m.it m.is) g in
        subst (Loose C t.columns) (same_ok _ row m.then) (written_fits C t places m.it (begun t old) vs (begun_fits C t old h))

pub new_fits : {S : Type 0} (C : Cat) (t : Table) (b : Basis S) (places : List ℕ) (old : Option (List Value)) (source : S) (new : List Value) → NewFits C t b places old source new
new_fits C t b places old source new keeps own olds gives h =
    let P : Option Policy = policy_of_table C t in
    let a = got (made P b t places old source) (λ row. row_fits t row >>= λ one. old_writable P b t old >>= λ two. labelled P b t row >>= λ new. masks_show_own P b t source >>= λ four. is_allowed P b t new >>= λ five. Ok new) new h in
    let k = got (row_fits t a.it) (λ one. old_writable P b t old >>= λ two. labelled P b t a.it >>= λ new. masks_show_own P b t source >>= λ four. is_allowed P b t new >>= λ five. Ok new) new a.then in
    let c = got (old_writable P b t old) (λ two. labelled P b t a.it >>= λ new. masks_show_own P b t source >>= λ four. is_allowed P b t new >>= λ five. Ok new) new k.then in
    let d = got (labelled P b t a.it) (λ new. masks_show_own P b t source >>= λ four. is_allowed P b t new >>= λ five. Ok new) new c.then in
    let e = got (masks_show_own P b t source) (λ four. is_allowed P b t d.it >>= λ five. Ok d.it) new d.then in
    let f = got (is_allowed P b t d.it) (λ five. Ok d.it) new e.then in
    subst (FitsTable C t) (same_ok d.it new f.then) (labelled_fits C t b keeps own (label_place t) a.it d.it refl (made_fits C t b keeps own places old source a.it olds gives a.is) k.is d.is)
