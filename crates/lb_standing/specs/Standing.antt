-- What stands when it is sound and its tables fit.
use Rattle.std.specs.Prelude.{ℕ, ◌≡◌, List, map, find, None}
use Rattle.lb_cat.specs.Catalog.{table_named}
use Rattle.lb_rows.specs.Tables.{is_version}
use Rattle.lb_alter.specs.Named.{AreDifferent}
use Rattle.lb_alter.specs.Laws.{AllTablesFit}
use Rattle.lb_alter.specs.Sound.{IsSound}
use Rattle.lb_fits.specs.Dated.{CatalogStoresDays}
use Rattle.lb_alter.specs.Naming.{stored_rules}
use Rattle.lb_journal.specs.State.{State}

-- The catalogue is sound under the rules of names and types, all its tables have rows that fit them, the DATE literals of all permissions and
-- masks are days of the calendar, and rows stand under the name of a table alone, once under each.
pub record IsStanding (S : State) : Type 0 where
  pub sound : IsSound stored_rules S.cat
  pub tables : AllTablesFit S.cat S.tables
  pub days : CatalogStoresDays S.cat
  pub nowhere : (n : List ℕ) → table_named S.cat n ≡ None → find (is_version n) S.tables ≡ None
  pub one_each : AreDifferent (map (λ v. v.name) S.tables)
