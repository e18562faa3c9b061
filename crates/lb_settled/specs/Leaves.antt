-- What a statement that changes the catalogue leaves in the program, made or refused.
use Rattle.std.specs.Prelude.{ℕ, ◌≡◌, false, List, option_map}
use Rattle.std.specs.Arc.{arc_value}
use Rattle.lb_base.specs.declared.key.Key.{Key}
use Rattle.lb_stmt.specs.declared.change.Change.{Change}
use Rattle.lb_cat.specs.Keys.{has_key}
use Rattle.lb_cat.specs.Stamps.{Kept, bare}
use Rattle.lb_rows.specs.Tables.{Tables}
use Rattle.lb_alter.specs.Frame.{SameRecord, SameRows}
use Rattle.lb_alter.specs.Laws.{IsAsRead}
use Rattle.lb_alter.specs.Naming.{stored_rules}
use Rattle.lb_alter.specs.Sound.{IsSound}
use Rattle.lb_changed.specs.declared.changed.Changed.{Changed as Made}
use Rattle.lb_changed.specs.Made.{IsMade, rows_after}
use Rattle.lb_journal.specs.Rules.{changed}

-- the rows of all tables afterwards
abbrev pub rows_left : Tables → Made → Tables
rows_left T m = rows_after (option_map arc_value m.table) m.touched T

-- What the user's statement leaves is what the definitions say of it, over the catalogue and the rows before. A key that it doesn't
-- touch keeps its record, its stamp and its rows. The catalogue is sound, if the statement was read from a text.
pub record Leaves (K : Kept) (T : Tables) (user : List ℕ) (s : Change) (m : Made) : Type 0 where
  pub made : IsMade K T (changed (bare K) T user s) m
  pub record_stays : (k : Key) → has_key k m.touched ≡ false → SameRecord (bare K) (bare m.catalog) k
  pub rows_stay : (k : Key) → has_key k m.touched ≡ false → SameRows T (rows_left T m) k
  pub sound : IsAsRead s → IsSound stored_rules (bare m.catalog)
