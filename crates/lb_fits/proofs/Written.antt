-- The rows that an UPDATE and an INSERT leave fit.
use Rattle.std.proofs.Common.{ℕ, suc, ◌≡◌, ◌≤◌, ◌*◌, refl, sym, subst, ap, ◌∙◌, Bool, true, false, not, List, [], ◌∷◌, ◌++◌, map, length, Option, Some, None, Ok, Err}
use Rattle.std.specs.Prelude.{nat_lt, if◌then◌else◌}
use Rattle.std.specs.List.{AllByRecursion}
use Rattle.lb_base.specs.declared.value.Value.{Value}
use Rattle.lb_base.specs.Evaluated.{Evaluated}
use Rattle.lb_cat.specs.declared.refusal.Refusal.{Refusal}
use Rattle.lb_cat.specs.Catalog.{Cat, Table, Policy}
use Rattle.lb_rows.specs.KeyValues.{keys_differ}
use Rattle.lb_mean.specs.Refused.{policy_of_table}
use Rattle.lb_answer.specs.Basis.{Basis}
use Rattle.lb_answer.specs.Candidates.{Marked, candidates, taken_rows}
use Rattle.lb_answer.specs.Checks.{new_row}
use Rattle.lb_answer.specs.Keys.{has_double}
use Rattle.lb_answer.specs.Laws.{AreRows}
use Rattle.lb_answer.specs.OrRefused.{Passed, or_refused, all_made}
use Rattle.lb_cat.specs.OrRefused.{OrRefused, ◌>>=◌}
use Rattle.lb_answer.specs.Writes.{Written, renewed, is_unique, is_within_cells, cell_limit, updated}
use Rattle.lb_alter.specs.Fits.{FitsTable, RowsFit}
use Rattle.lb_alter.proofs.SoundKinds.{not_more}
use Rattle.lb_alter.proofs.SoundUsers.{all_append}
use Rattle.lb_kinds.specs.HasKind.{IfResult}
use Rattle.lb_fits.specs.Given.{OwnFits, GivesPlaces, KeepsColumns}
use Rattle.lb_fits.specs.Laws.{UpdateGives, UpdatedFits, InsertedFits}
use Rattle.lb_fits.proofs.KeyTests.{tests_of_keys_agree}
use Rattle.lb_fits.proofs.NewRows.{new_fits}
use Rattle.lb_fits.proofs.Steps.{got, evaluated, same_ok}

-- all results have what each of them has, and there are as many
module _ {A B : Type 0} (f : A → OrRefused B) (P : A → Type 0) (Q : B → Type 0) (each : (x : A) (y : B) → P x → f x ≡ Ok y → Q y) where
  all_have : (xs : List A) (ys : List B) → AllByRecursion P xs → all_made (map f xs) ≡ Ok ys → AllByRecursion Q ys × (length ys ≡ length xs)
  all_have [] ys h e = subst (λ (zs : List B). AllByRecursion Q zs × (length zs ≡ 0)) (same_ok [] ys e) (tt, refl)
  all_have (x ∷ xs) ys h e =
      let a = got (f x) (λ v. all_made (map f xs) >>= λ vs. Ok (v ∷ vs)) ys e in
      let b = got (all_made (map f xs)) (λ vs. Ok (a.it ∷ vs)) ys a.then in
      let rest = all_have xs b.it h.1 b.is in
      subst (λ (zs : List B). AllByRecursion Q zs × (length zs ≡ suc (length xs))) (same_ok (a.it ∷ b.it) ys b.then) ((each x a.it h.0 a.is, rest.0), ap suc rest.1)

passed : (b : Bool) (r : Refusal) → ◌≡◌ {A = OrRefused Passed} (if b then Err r else Ok tt) (Ok tt) → b ≡ false
passed true r e = absurd cc
passed false r e = refl

module _ (C : Cat) (t : Table) (keeps : KeepsColumns C t) where
  unique_differ : (rows : List (List Value)) → AllByRecursion (FitsTable C t) rows → is_unique t rows ≡ Ok tt → keys_differ t.key rows ≡ true
  unique_differ rows h e = tests_of_keys_agree C t rows keeps.key h ∙ ap not (passed (has_double t.key rows) _ e)

  within : (rows : List (List Value)) → is_within_cells t rows ≡ Ok tt → length rows * length t.columns ≤ cell_limit
  within rows e = not_more cell_limit (length rows * length t.columns) (passed (nat_lt cell_limit (length rows * length t.columns)) _ e)

  abbrev P : Option Policy
  P = policy_of_table C t

  abbrev RowOf : Marked → Type 0
  RowOf m = FitsTable C t m.row

  marked : (ms : List Marked) → AllByRecursion (FitsTable C t) (map (λ m. m.row) ms) → AllByRecursion RowOf ms
  marked [] h = tt
  marked (m ∷ ms) h = (h.0, marked ms h.1)

  same_many : (ms : List Marked) → length (map (λ m. m.row) ms) ≡ length ms
  same_many [] = refl
  same_many (m ∷ ms) = ap suc (same_many ms)

  module _ (b : Basis (List Value)) (places : List ℕ) (own : OwnFits P b.own_label) (gives : UpdateGives C t b places) where
    renewed_by : (taken : Bool) (m : Marked) (new : List Value) → RowOf m → (if taken then new_row P b t places (Some m.row) m.row else Ok m.row) ≡ Ok new → FitsTable C t new
    renewed_by true m new h e = new_fits C t b places (Some m.row) m.row new keeps own h (gives m.row h) e
    renewed_by false m new h e = subst (FitsTable C t) (same_ok m.row new e) h

    renewed_fits : (m : Marked) (new : List Value) → RowOf m → renewed P b t places m ≡ Ok new → FitsTable C t new
    renewed_fits m new h e = renewed_by m.taken m new h e

    updated_with : ((b : Basis (List Value)) (rows : List (List Value)) (marks : List Marked) → AreRows b rows marks) → (rows : List (List Value)) (w : Written) → RowsFit C t rows → updated P b t places rows ≡ Ok w → RowsFit C t w.rows
    updated_with are_rows rows w fits h =
        let a = got (or_refused (candidates b rows)) (λ marks. all_made (map (renewed P b t places) marks) >>= λ news. is_unique t news >>= λ unique. Ok (record { count = length (taken_rows marks); rows = news })) w h in
        let n = got (all_made (map (renewed P b t places) a.it)) (λ news. is_unique t news >>= λ unique. Ok (record { count = length (taken_rows a.it); rows = news })) w a.then in
        let u = got (is_unique t n.it) (λ unique. Ok (record { count = length (taken_rows a.it); rows = n.it })) w n.then in
        let same : map (λ m. m.row) a.it ≡ rows = are_rows b rows a.it (evaluated (candidates b rows) a.it a.is) in
        let all = all_have (renewed P b t places) RowOf (FitsTable C t) renewed_fits a.it n.it (marked a.it (subst (AllByRecursion (FitsTable C t)) (sym same) fits.each)) n.is in
        let many : length n.it ≡ length rows = all.1 ∙ sym (same_many a.it) ∙ ap length same in
        subst (λ (x : Written). RowsFit C t x.rows) (same_ok _ w u.then)
        (record { each = all.0; keys = unique_differ n.it all.0 u.is; cells = subst (λ (k : ℕ). k * length t.columns ≤ 131072) (sym many) fits.cells })

pub updated_fits : ((b : Basis (List Value)) (rows : List (List Value)) (marks : List Marked) → AreRows b rows marks) → UpdatedFits
updated_fits are_rows C t b places rows w keeps own gives fits h = updated_with C t keeps b places own gives are_rows rows w fits h

pub inserted_fits : {S : Type 0} (C : Cat) (t : Table) (b : Basis S) (places : List ℕ) (sources : Evaluated (List S)) (rows : List (List Value)) (w : Written) → InsertedFits C t b places sources rows w
inserted_fits {S} C t b places sources rows w keeps own gives fits h =
    let P : Option Policy = policy_of_table C t in
    let s = got (or_refused sources) (λ ss. all_made (map (new_row P b t places None) ss) >>= λ news. is_unique t (rows ++ news) >>= λ unique. is_within_cells t (rows ++ news) >>= λ within. Ok (record { count = length news; rows = rows ++ news })) w h in
    let n = got (all_made (map (new_row P b t places None) s.it)) (λ news. is_unique t (rows ++ news) >>= λ unique. is_within_cells t (rows ++ news) >>= λ within. Ok (record { count = length news; rows = rows ++ news })) w s.then in
    let u = got (is_unique t (rows ++ n.it)) (λ unique. is_within_cells t (rows ++ n.it) >>= λ within. Ok (record { count = length n.it; rows = rows ++ n.it })) w n.then in
    let k = got (is_within_cells t (rows ++ n.it)) (λ within. Ok (record { count = length n.it; rows = rows ++ n.it })) w u.then in
    let each : AllByRecursion (λ (x : S). GivesPlaces C t places (b.values x)) s.it = subst (IfResult (AllByRecursion (λ (x : S). GivesPlaces C t places (b.values x)))) (evaluated sources s.it s.is) gives in
    let all = all_have (new_row P b t places None) (λ (x : S). GivesPlaces C t places (b.values x)) (FitsTable C t) (λ x new g e. new_fits C t b places None x new keeps own tt g e) s.it n.it each n.is in
    let whole : AllByRecursion (FitsTable C t) (rows ++ n.it) = all_append (FitsTable C t) rows n.it fits.each all.0 in
    subst (λ (x : Written). RowsFit C t x.rows) (same_ok _ w k.then)
    (record { each = whole; keys = unique_differ C t keeps (rows ++ n.it) whole u.is; cells = within C t keeps (rows ++ n.it) k.is })
