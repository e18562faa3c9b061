-- What a change leaves in the program, beside what the definitions say.
use Rattle.std.specs.Prelude.{ℕ, ◌≡◌, Bool, true, false, List, [], ◌∷◌, Option, None, Some, option_map, Result, Ok, Err}
use Rattle.std.specs.Arc.{arc_value}
use Rattle.lb_base.specs.declared.key.Key.{Key}
use Rattle.lb_base.specs.declared.key.Key.TheVariants as keys
use Rattle.lb_cat.specs.Keys.{has_key}
use Rattle.lb_cat.specs.Stamps.{Kept, bare, look}
use Rattle.lb_cat.specs.OrRefused.{OrRefused}
use Rattle.lb_rows.specs.Lists.{without}
use Rattle.lb_rows.specs.Tables.{Tables, Version, put_version}
use Rattle.lb_alter.specs.Refusing.{Changed}
use Rattle.lb_changed.specs.declared.changed.Changed.{Changed as Made}
use Rattle.lb_changed.specs.declared.stop.Stop.{Stop}
use Rattle.lb_changed.specs.Given.{IsRefused}

-- the key is that of a table's rows
abbrev pub is_rows : Key → Bool
is_rows (keys.Rows n) = true
is_rows _ = false

-- the rows of this table are among the keys
abbrev pub is_touched : List Key → Version → Bool
is_touched touched v = has_key (keys.Rows v.name) touched

-- the rows of all tables after a change: the new version in its table's place; without one, tables whose rows are touched are gone
abbrev pub rows_after : Option Version → List Key → Tables → Tables
rows_after (Some v) touched T = put_version v T
rows_after None touched T = without (is_touched touched) T

-- a new version is that of the one table whose rows are touched
abbrev pub IsOfTouched : Option Version → List Key → Type 0
IsOfTouched None touched = Unit {0}
IsOfTouched (Some v) touched = (n : List ℕ) → has_key (keys.Rows n) touched ≡ has_key (keys.Rows n) (keys.Rows v.name ∷ [])

-- no stamp is another one
abbrev pub StampsStay : Kept → Kept → Type 0
StampsStay K L = (k : Key) → look L k ≡ look K k

-- what is left is what the definitions say, of a catalogue and the rows before; and what isn't touched keeps its stamp
pub record IsMade (K : Kept) (T : Tables) (said : Changed) (made : Made) : Type 0 where
  pub cat : bare made.catalog ≡ said.cat
  pub tables : rows_after (option_map arc_value made.table) made.touched T ≡ said.tables
  pub touched : made.touched ≡ said.touched
  pub version : IsOfTouched (option_map arc_value made.table) made.touched
  pub reply : made.reply ≡ said.reply
  pub stamps : (k : Key) → has_key k said.touched ≡ false → look made.catalog k ≡ look K k

-- a change is made as the definitions say, or refused as they say
abbrev pub Makes : Kept → Tables → OrRefused Changed → Result Made Stop → Type 0
Makes K T (Ok said) (Ok made) = IsMade K T said made
Makes K T (Err refusal) (Ok made) = ⊥
Makes K T given (Err stop) = IsRefused given stop
