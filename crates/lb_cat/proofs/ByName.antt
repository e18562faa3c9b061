-- A map from names to records, as the list of the records: insertion, look-up, removal, copies and writing by place.
use Rattle.std.proofs.Common.{◌≡◌, refl, sym, ap, subst, ◌∙◌, ℕ, zero, suc, Bool, true, false, cond, not, List, [], ◌∷◌, Option, None, Some, is_some, true≢false}
use Rattle.std.specs.Prelude.{find, slice_get, slice_set, option_map, string_bytes}
use Rattle.std.specs.Borrow.{Bor}
use Rattle.std.specs.Option.{option_copied}
use Rattle.std.specs.Str.{bytes_eq}
use Rattle.std.specs.String.{string_eq}
use Rattle.std.specs.List.{AllZip, AllByRecursion, IsDistinct}
use Rattle.std.specs.Map.{keys_of, values_of, lookup}
use Rattle.std.specs.Arc.{arc_value}
use Rattle.std.proofs.lemmas.Cmp.{nat_list_eq_equiv}
use Rattle.std.proofs.lemmas.Slice.Eq.{bytes_eq-Decides}
use Rattle.std.specs.declared.string.String.{String}
use Rattle.std.specs.declared.sync.Arc.{Arc}
use Rattle.std.specs.declared.alloc.Global.{Global}
use Rattle.indexmap.specs.IndexMap.{insert_entry, shift_remove_entry, set_value_at}
use Rattle.lb_rows.specs.Lists.{put, without}
use Rattle.lb_cat.specs.Records.{record_in, records_in, AreByName}

-- a test may be asked the other way round
pub turned : (m n : List ℕ) → bytes_eq m n ≡ bytes_eq n m
turned m n = nat_list_eq_equiv.symm m n

-- names for which the test holds are the same
pub same_name : (m n : List ℕ) → bytes_eq m n ≡ true → m ≡ n
same_name m n h = (bytes_eq-Decides m n).0 h

module _ {R : Type 0} (name : R → List ℕ) where
  -- the record has that name
  abbrev pub is_named : List ℕ → R → Bool
  is_named n x = bytes_eq (name x) n

  module _ (k : String Global) (r : Arc R Global) (own : string_bytes k ≡ name (arc_value r)) where
    -- the test of the map's insertion is that of `put`
    inserts_there : (e : String Global × Arc R Global) → string_bytes e.0 ≡ name (record_in e) → string_eq k e.0 ≡ is_named (name (arc_value r)) (record_in e)
    inserts_there e key = ap (λ m. bytes_eq m (string_bytes e.0)) own ∙ ap (bytes_eq (name (arc_value r))) key ∙ turned (name (arc_value r)) (name (record_in e))

    pub put_entry : (es : List (String Global × Arc R Global)) → AreByName name es → records_in (insert_entry string_eq es k r) ≡ put (is_named (name (arc_value r))) (arc_value r) (records_in es)
    put_entry [] keys = refl
    put_entry (e ∷ es) keys =
        subst (λ b. records_in (cond b ((e.0, r) ∷ es) (e ∷ insert_entry string_eq es k r)) ≡ cond (is_named (name (arc_value r)) (record_in e)) (arc_value r ∷ records_in es) (record_in e ∷ put (is_named (name (arc_value r))) (arc_value r) (records_in es))) (sym (inserts_there e keys.0)) (
        elim (is_named (name (arc_value r)) (record_in e)) as (λ b. records_in (cond b ((e.0, r) ∷ es) (e ∷ insert_entry string_eq es k r)) ≡ cond b (arc_value r ∷ records_in es) (record_in e ∷ put (is_named (name (arc_value r))) (arc_value r) (records_in es))) [
          | true ↦ refl
          | false ↦ ap (λ (rest : List R). record_in e ∷ rest) (put_entry es keys.1)
        ])

    pub by_name_after_put : (es : List (String Global × Arc R Global)) → AreByName name es → AreByName name (insert_entry string_eq es k r)
    by_name_after_put [] keys = (own, _)
    by_name_after_put (e ∷ es) keys = by (string_eq k e.0) refl (by_name_after_put es keys.1)
      where
        by : (b : Bool) → string_eq k e.0 ≡ b → AreByName name (insert_entry string_eq es k r) → AreByName name (cond b ((e.0, r) ∷ es) (e ∷ insert_entry string_eq es k r))
        by true h rest = (sym (same_name (string_bytes k) (string_bytes e.0) h) ∙ own, keys.1)
        by false h rest = (keys.0, rest)

  -- the map's look-up by a name finds the first record of that name
  pub find_entry : (n : List ℕ) (es : List (String Global × Arc R Global)) → AreByName name es → option_map arc_value (lookup (λ k. bytes_eq n (string_bytes k)) es) ≡ find (is_named n) (records_in es)
  find_entry n [] keys = refl
  find_entry n (e ∷ es) keys =
      ap (λ m. option_map arc_value (cond (bytes_eq n m) (Some e.1) (lookup (λ k. bytes_eq n (string_bytes k)) es))) keys.0
      ∙ ap (λ b. option_map arc_value (cond b (Some e.1) (lookup (λ k. bytes_eq n (string_bytes k)) es))) (turned n (name (record_in e)))
      ∙ (elim (is_named n (record_in e)) as (λ b. option_map arc_value (cond b (Some e.1) (lookup (λ k. bytes_eq n (string_bytes k)) es)) ≡ cond b (Some (record_in e)) (find (is_named n) (records_in es))) [
        | true ↦ refl
        | false ↦ find_entry n es keys.1
      ])

  -- where no key of the entries is the name, none is left out
  none_left_out : (n : List ℕ) (k : String Global) → bytes_eq n (string_bytes k) ≡ true → (es : List (String Global × Arc R Global)) → AreByName name es → AllByRecursion (λ y. string_eq k y ≡ false) (keys_of es) → records_in es ≡ without (is_named n) (records_in es)
  none_left_out n k h [] keys apart = refl
  none_left_out n k h (e ∷ es) keys apart =
      let other : is_named n (record_in e) ≡ false = turned (name (record_in e)) n ∙ ap (bytes_eq n) (sym keys.0) ∙ ap (λ m. bytes_eq m (string_bytes e.0)) (same_name n (string_bytes k) h) ∙ apart.0 in
      ap (λ (rest : List R). record_in e ∷ rest) (none_left_out n k h es keys.1 apart.1)
      ∙ ap (λ b. cond (not b) (record_in e ∷ without (is_named n) (records_in es)) (without (is_named n) (records_in es))) (sym other)

  -- the map's removal of a name leaves the records of other names, in their order
  pub remove_entry : (n : List ℕ) (es : List (String Global × Arc R Global)) → AreByName name es → IsDistinct string_eq (keys_of es) → records_in (shift_remove_entry (λ k. bytes_eq n (string_bytes k)) es) ≡ without (is_named n) (records_in es)
  unfolding IsDistinct
  remove_entry n [] keys apart = refl
  remove_entry n (e ∷ es) keys apart = by (bytes_eq n (string_bytes e.0)) refl (remove_entry n es keys.1 apart.1)
    where
      by : (b : Bool) → bytes_eq n (string_bytes e.0) ≡ b → records_in (shift_remove_entry (λ k. bytes_eq n (string_bytes k)) es) ≡ without (is_named n) (records_in es) → records_in (cond b es (e ∷ shift_remove_entry (λ k. bytes_eq n (string_bytes k)) es)) ≡ without (is_named n) (record_in e ∷ records_in es)
      by true h rest =
          none_left_out n e.0 h es keys.1 apart.0
          ∙ ap (λ b. cond (not b) (record_in e ∷ without (is_named n) (records_in es)) (without (is_named n) (records_in es))) (sym (turned (name (record_in e)) n ∙ ap (bytes_eq n) (sym keys.0) ∙ h))
      by false h rest =
          ap (λ (others : List R). record_in e ∷ others) rest
          ∙ ap (λ b. cond (not b) (record_in e ∷ without (is_named n) (records_in es)) (without (is_named n) (records_in es))) (sym (turned (name (record_in e)) n ∙ ap (bytes_eq n) (sym keys.0) ∙ h))

  pub by_name_after_removal : (n : List ℕ) (es : List (String Global × Arc R Global)) → AreByName name es → AreByName name (shift_remove_entry (λ k. bytes_eq n (string_bytes k)) es)
  by_name_after_removal n [] keys = keys
  by_name_after_removal n (e ∷ es) keys =
      elim (bytes_eq n (string_bytes e.0)) as (λ b. AreByName name (cond b es (e ∷ shift_remove_entry (λ k. bytes_eq n (string_bytes k)) es))) [
        | true ↦ keys.1
        | false ↦ (keys.0, by_name_after_removal n es keys.1)
      ]

  -- a copy of the map has the same records
  pub same_records : (es fs : List (String Global × Arc R Global)) → AllZip (λ p q. (string_bytes q.0 ≡ string_bytes p.0) × (arc_value q.1 ≡ arc_value p.1)) es fs → records_in fs ≡ records_in es
  same_records [] [] h = refl
  same_records [] (f ∷ fs) h = absurd h
  same_records (e ∷ es) [] h = absurd h
  same_records (e ∷ es) (f ∷ fs) h = λ i. h.0.1 i ∷ same_records es fs h.1 i

  pub by_name_after_copy : (es fs : List (String Global × Arc R Global)) → AreByName name es → AllZip (λ p q. (string_bytes q.0 ≡ string_bytes p.0) × (arc_value q.1 ≡ arc_value p.1)) es fs → AreByName name fs
  by_name_after_copy [] [] keys h = keys
  by_name_after_copy [] (f ∷ fs) keys h = absurd h
  by_name_after_copy (e ∷ es) [] keys h = absurd h
  by_name_after_copy (e ∷ es) (f ∷ fs) keys h = (h.0.0 ∙ keys.0 ∙ ap name (sym h.0.1), by_name_after_copy es fs keys.1 h.1)

  -- a record written by place
  pub set_entry : (es : List (String Global × Arc R Global)) (i : ℕ) (w : Arc R Global) → records_in (set_value_at es i w) ≡ slice_set (records_in es) i (arc_value w)
  set_entry [] i w = refl
  set_entry (e ∷ es) zero w = refl
  set_entry (e ∷ es) (suc i) w = ap (λ (rest : List R). record_in e ∷ rest) (set_entry es i w)

  pub by_name_after_set : (es : List (String Global × Arc R Global)) (i : ℕ) (w : Arc R Global) → AreByName name es → ((r : R) → slice_get (records_in es) i ≡ Some r → name (arc_value w) ≡ name r) → AreByName name (set_value_at es i w)
  by_name_after_set [] i w keys same = keys
  by_name_after_set (e ∷ es) zero w keys same = (keys.0 ∙ sym (same (record_in e) refl), keys.1)
  by_name_after_set (e ∷ es) (suc i) w keys same = (keys.0, by_name_after_set es i w keys.1 same)

-- what a look-up lends, by its value
pub lent_value : {R : Type 0} (r : Option (Bor (Arc R Global))) → option_map (λ x. arc_value x.now) r ≡ option_map arc_value (option_copied r)
lent_value None = refl
lent_value (Some x) = refl

-- the record in a place, by the map's value there
pub record_at : {R : Type 0} (es : List (String Global × Arc R Global)) (i : ℕ) (w : Arc R Global) → slice_get (values_of es) i ≡ Some w → slice_get (records_in es) i ≡ Some (arc_value w)
record_at [] i w h = absurd (true≢false (sym (ap is_some h)))
record_at (e ∷ es) zero w h = ap (option_map arc_value) h
record_at (e ∷ es) (suc i) w h = record_at es i w h
