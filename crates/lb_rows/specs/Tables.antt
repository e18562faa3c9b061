-- The rows of the tables, each list under its table's name.
use Rattle.std.specs.Prelude.{ℕ, Bool, List, [], find, Option, None, Some}
use Rattle.std.specs.Str.{bytes_eq}
use Rattle.lb_base.specs.declared.value.Value.{Value}
use Rattle.lb_rows.specs.Lists.{put, without}

-- the rows of a table, which it names, in table order
pub record Version : Type 0 where
  pub name : List ℕ
  pub rows : List (List Value)

-- the rows of all tables
abbrev pub Tables : Type 0
Tables = List Version

-- these are the rows of the table with that name
abbrev pub is_version : List ℕ → Version → Bool
is_version n v = bytes_eq v.name n

-- the rows that there are; a table that isn't there has none
abbrev pub rows_in : Option Version → List (List Value)
rows_in None = []
rows_in (Some v) = v.rows

-- the rows of the table with that name, in table order
abbrev pub rows_of : List ℕ → Tables → List (List Value)
rows_of n T = rows_in (find (is_version n) T)

-- the rows of one table, in the place of those that it had
abbrev pub put_version : Version → Tables → Tables
put_version v T = put (is_version v.name) v T

-- without the rows of the table with that name
abbrev pub drop_version : List ℕ → Tables → Tables
drop_version n T = without (is_version n) T
