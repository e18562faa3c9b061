-- What is said of the rows that writes leave: they fit their table.
use Rattle.std.specs.Prelude.{ℕ, ◌≡◌, ℤ, not, List, Option, Some, Ok}
use Rattle.std.specs.List.{AllByRecursion}
use Rattle.lb_base.specs.declared.value.Value.{Value}
use Rattle.lb_base.specs.Evaluated.{Evaluated}
use Rattle.lb_stmt.specs.declared.write.Delete.{Delete}
use Rattle.lb_cat.specs.declared.cred.Cred.{Cred}
use Rattle.lb_cat.specs.Catalog.{Cat, Table, Policy}
use Rattle.lb_rows.specs.KeyValues.{keys_differ}
use Rattle.lb_rows.specs.Tables.{Tables, Version, put_version}
use Rattle.lb_mean.specs.Answer.{Checks}
use Rattle.lb_mean.specs.Refused.{policy_of_table}
use Rattle.lb_answer.specs.Basis.{Basis}
use Rattle.lb_answer.specs.Answer.{Answered, delete_answer}
use Rattle.lb_answer.specs.Checks.{stored_label, new_row}
use Rattle.lb_answer.specs.Keys.{has_double}
use Rattle.lb_answer.specs.Writes.{Written, updated, deleted, inserted}
use Rattle.lb_alter.specs.Columns.{HasKeyColumn}
use Rattle.lb_alter.specs.Fits.{FitsTable, RowsFit}
use Rattle.lb_alter.specs.Laws.{AllTablesFit}
use Rattle.lb_kinds.specs.HasKind.{IfResult}
use Rattle.lb_fits.specs.Given.{IsItsLabel, IsNullOrItsLabel, OwnFits, GivesPlaces, KeepsColumns, OldFits}

-- where rows are left, all tables fit with them in their place
abbrev pub LeavesFit : Cat → Tables → Answered → Type 0
LeavesFit C T a = (v : Version) → a.table ≡ Some v → AllTablesFit C (put_version v T)

-- ---- DELETE

-- the rows that a DELETE leaves fit the table where its rows do
abbrev pub DeletedFits : Type 0
DeletedFits = (C : Cat) (t : Table) (p : Option Policy) (b : Basis (List Value)) (rows : List (List Value)) (w : Written)
    → RowsFit C t rows → deleted p b t rows ≡ Ok w → RowsFit C t w.rows

-- a DELETE keeps that all tables fit, whatever catalogue and credentials
abbrev pub DeletesFit : Type 0
DeletesFit = (checks : Checks) (C : Cat) (c : Cred) (T : Tables) (day : ℤ) (d : Delete) → AllTablesFit C T → LeavesFit C T (delete_answer C c T day checks d)

-- ---- the row that a candidate makes

-- the label that is stored is a label of the table's policy, where the given one is null or a label of it, as the session's own is
abbrev pub StoredFits : {S : Type 0} → Option Policy → Basis S → Table → Value → Value → Type 0
StoredFits p b t l stored = OwnFits p b.own_label → IsNullOrItsLabel p l → stored_label p b t l ≡ Ok stored → IsItsLabel p stored

-- the new row fits the table, where the old one does and each value is null or of the kind of its column
abbrev pub NewFits : {S : Type 0} → Cat → Table → Basis S → List ℕ → Option (List Value) → S → List Value → Type 0
NewFits C t b places old source new = KeepsColumns C t → OwnFits (policy_of_table C t) b.own_label → OldFits C t old → GivesPlaces C t places (b.values source)
    → new_row (policy_of_table C t) b t places old source ≡ Ok new → FitsTable C t new

-- ---- keys

-- where each row fits the table, its keys differ exactly where no two rows have one key
abbrev pub KeysAgree : Type 0
KeysAgree = (C : Cat) (t : Table) (rows : List (List Value)) → HasKeyColumn t t.key → AllByRecursion (FitsTable C t) rows → keys_differ t.key rows ≡ not (has_double t.key rows)

-- ---- UPDATE and INSERT

-- what an UPDATE evaluates for a row that fits gives each column that it sets null or a value of its kind
abbrev pub UpdateGives : Cat → Table → Basis (List Value) → List ℕ → Type 0
UpdateGives C t b places = (row : List Value) → FitsTable C t row → GivesPlaces C t places (b.values row)

-- the rows that an UPDATE leaves fit the table where its rows do
abbrev pub UpdatedFits : Type 0
UpdatedFits = (C : Cat) (t : Table) (b : Basis (List Value)) (places : List ℕ) (rows : List (List Value)) (w : Written)
    → KeepsColumns C t → OwnFits (policy_of_table C t) b.own_label → UpdateGives C t b places
    → RowsFit C t rows → updated (policy_of_table C t) b t places rows ≡ Ok w → RowsFit C t w.rows

-- each of the sources from which an INSERT makes rows gives each column that it gives null or a value of its kind
abbrev pub SourcesGive : {S : Type 0} → Cat → Table → Basis S → List ℕ → Evaluated (List S) → Type 0
SourcesGive C t b places sources = IfResult (AllByRecursion (λ s. GivesPlaces C t places (b.values s))) sources

-- the rows that an INSERT leaves fit the table where its rows do
abbrev pub InsertedFits : {S : Type 0} → Cat → Table → Basis S → List ℕ → Evaluated (List S) → List (List Value) → Written → Type 0
InsertedFits C t b places sources rows w = KeepsColumns C t → OwnFits (policy_of_table C t) b.own_label → SourcesGive C t b places sources
    → RowsFit C t rows → inserted (policy_of_table C t) b t places sources rows ≡ Ok w → RowsFit C t w.rows
