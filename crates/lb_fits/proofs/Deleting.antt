-- The rows that a DELETE leaves fit.
use Rattle.std.proofs.Common.{ℕ, suc, ◌≡◌, ◌≤◌, ◌*◌, refl, sym, subst, ap, ◌∙◌, Bool, true, false, not, cond, ◌&&◌, ◌||◌, List, [], ◌∷◌, map, length, Option, Some, None, Ok, arith}
use Rattle.std.specs.Prelude.{filter}
use Rattle.std.specs.List.{AllByRecursion, list_any}
use Rattle.std.proofs.lemmas.Nat.{mul-le}
use Rattle.lb_base.specs.declared.value.Value.{Value}
use Rattle.lb_base.specs.Compare.{equal_of}
use Rattle.lb_cat.specs.declared.reply.Verb.TheVariants as verbs
use Rattle.lb_cat.specs.Catalog.{Cat, Table}
use Rattle.lb_base.specs.Conditions.{is_null}
use Rattle.lb_rows.specs.KeyValues.{is_true, is_repeated, are_keys, value_at, keys_differ}
use Rattle.lb_rows.specs.Tables.{rows_of}
use Rattle.lb_mean.specs.Refused.{policy_of_table}
use Rattle.lb_mean.specs.Visible.{guarded, unguarded}
use Rattle.lb_answer.specs.Answer.{delete_from}
use Rattle.lb_answer.specs.Bases.{delete_basis}
use Rattle.lb_answer.specs.Basis.{Basis}
use Rattle.lb_answer.specs.Before.{delete_refused}
use Rattle.lb_answer.specs.Candidates.{Marked, candidates, taken_rows, other_rows}
use Rattle.lb_answer.specs.Checks.{is_writable}
use Rattle.lb_answer.specs.Laws.{AreRows}
use Rattle.lb_answer.specs.OrRefused.{or_refused, all_passed}
use Rattle.lb_cat.specs.OrRefused.{◌>>=◌}
use Rattle.lb_answer.specs.Writes.{Written}
use Rattle.lb_alter.specs.Fits.{FitsTable, RowsFit}
use Rattle.lb_fits.specs.Laws.{DeletedFits, DeletesFit}
use Rattle.lb_fits.proofs.Steps.{got, evaluated, same_ok, left_true, right_true, both_true, not_false}
use Rattle.lb_fits.proofs.Putting.{rows_there, answer_fits}

abbrev Rows : Type 0
Rows = List (List Value)

abbrev all_rows : List Marked → Rows
all_rows ms = map (λ m. m.row) ms

abbrev left : List Marked → List Marked
left ms = filter (λ m. not m.taken) ms

module _ (P : List Value → Type 0) where
  one_left : (b : Bool) (m : Marked) (ms : List Marked) → P m.row → AllByRecursion P (all_rows ms) → AllByRecursion P (all_rows (cond b (m ∷ ms) ms))
  one_left true m ms h i = (h, i)
  one_left false m ms h i = i

  each_left : (ms : List Marked) → AllByRecursion P (all_rows ms) → AllByRecursion P (other_rows ms)
  each_left [] h = tt
  each_left (m ∷ ms) h = one_left (not m.taken) m (left ms) h.0 (each_left ms h.1)

count_step : (b : Bool) (m : Marked) (ms : List Marked) (n : ℕ) → length (all_rows ms) ≤ n → length (all_rows (cond b (m ∷ ms) ms)) ≤ suc n
count_step true m ms n h = omega (arith, h)
count_step false m ms n h = omega (arith, h)

count_left : (ms : List Marked) → length (other_rows ms) ≤ length (all_rows ms)
count_left [] = omega arith
count_left (m ∷ ms) = count_step (not m.taken) m (left ms) (length (all_rows ms)) (count_left ms)

-- ---- keys

or_left : (a b : Bool) → (a || b) ≡ false → a ≡ false
or_left true b h = absurd cc
or_left false b h = refl

or_right : (a b : Bool) → (a || b) ≡ false → b ≡ false
or_right true b h = absurd cc
or_right false b h = h

neither : (a b : Bool) → a ≡ false → b ≡ false → (a || b) ≡ false
neither a b h i = ap (λ (x : Bool). x || b) h ∙ i

module _ (at : ℕ) where
  abbrev keys : List Marked → List Value
  keys ms = map (value_at at) (all_rows ms)

  fewer_on : (q : Value → Bool) (b : Bool) (m : Marked) (ms : List Marked) → q (value_at at m.row) ≡ false → list_any q (keys ms) ≡ false → list_any q (keys (cond b (m ∷ ms) ms)) ≡ false
  fewer_on q false m ms h i = i
  fewer_on q true m ms h i = neither (q (value_at at m.row)) (list_any q (keys ms)) h i

  fewer : (q : Value → Bool) (ms : List Marked) → list_any q (keys ms) ≡ false → list_any q (keys (left ms)) ≡ false
  fewer q [] h = refl
  fewer q (m ∷ ms) h = fewer_on q (not m.taken) m (left ms) (or_left (q (value_at at m.row)) (list_any q (keys ms)) h) (fewer q ms (or_right (q (value_at at m.row)) (list_any q (keys ms)) h))

  still_on : (b : Bool) (m : Marked) (ms : List Marked) → not (is_null (value_at at m.row)) ≡ true → is_repeated (value_at at m.row) (keys ms) ≡ false → are_keys (keys ms) ≡ true → are_keys (keys (cond b (m ∷ ms) ms)) ≡ true
  still_on false m ms n r h = h
  still_on true m ms n r h = both_true _ _ (both_true _ _ n (ap not r)) h

  still : (ms : List Marked) → are_keys (keys ms) ≡ true → are_keys (keys (left ms)) ≡ true
  still [] h = refl
  still (m ∷ ms) h =
      let v : Value = value_at at m.row in
      let both : (not (is_null v) && not (is_repeated v (keys ms))) ≡ true = left_true (not (is_null v) && not (is_repeated v (keys ms))) (are_keys (keys ms)) h in
      let all : are_keys (keys ms) ≡ true = right_true (not (is_null v) && not (is_repeated v (keys ms))) (are_keys (keys ms)) h in
      let r : is_repeated v (keys ms) ≡ false = not_false (is_repeated v (keys ms)) (right_true (not (is_null v)) (not (is_repeated v (keys ms))) both) in
      still_on (not m.taken) m (left ms) (left_true (not (is_null v)) (not (is_repeated v (keys ms))) both) (fewer (λ w. is_true (equal_of v w)) ms r) (still ms all)

keys_left : (key : Option ℕ) (ms : List Marked) → keys_differ key (all_rows ms) ≡ true → keys_differ key (other_rows ms) ≡ true
keys_left None ms h = refl
keys_left (Some at) ms h = still at ms h

rows_left : (C : Cat) (t : Table) (ms : List Marked) → RowsFit C t (all_rows ms) → RowsFit C t (other_rows ms)
rows_left C t ms h =
    let less : length (other_rows ms) * length t.columns ≤ length (all_rows ms) * length t.columns = mul-le (length (other_rows ms)) (length t.columns) (length (all_rows ms)) (length t.columns) (count_left ms) (omega arith) in
    let cells : length (all_rows ms) * length t.columns ≤ 131072 = h.cells in
    record { each = each_left (FitsTable C t) ms h.each; keys = keys_left t.key ms h.keys; cells = omega (arith, less, cells) }

module _ (are_rows : (b : Basis (List Value)) (rows : Rows) (marks : List Marked) → AreRows b rows marks) where
  pub deleted_fits : DeletedFits
  deleted_fits C t p b rows w fits h =
      let a = got (or_refused (candidates b rows)) (λ marks. all_passed (map (is_writable p b t) (taken_rows marks)) >>= λ writable. Ok (record { count = length (taken_rows marks); rows = other_rows marks })) w h in
      let k = got (all_passed (map (is_writable p b t) (taken_rows a.it))) (λ writable. Ok (record { count = length (taken_rows a.it); rows = other_rows a.it })) w a.then in
      let same : all_rows a.it ≡ rows = are_rows b rows a.it (evaluated (candidates b rows) a.it a.is) in
      subst (λ (x : Written). RowsFit C t x.rows) (same_ok _ _ k.then) (rows_left C t a.it (subst (RowsFit C t) (sym same) fits))

  pub deletes_fit : DeletesFit
  deletes_fit checks C c T day d fits =
      answer_fits C T fits (delete_refused checks C c d) verbs.Deleted d.target.table (delete_from C c T day d)
      (λ _ t w e h. deleted_fits C t (policy_of_table C t) (delete_basis C c (unguarded C c T day) (guarded C c T day) t (policy_of_table C t) d) (rows_of d.target.table T) w (rows_there C T fits d.target.table t e) h)
