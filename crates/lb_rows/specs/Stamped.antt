-- The versions of tables with their stamps, and the same without stamps.
use Rattle.std.specs.Prelude.{ℕ, Bool, List, find, map, Option, None, Some}
use Rattle.std.specs.Arc.{arc_value}
use Rattle.lb_rows.specs.declared.snap.StampedVersion.{StampedVersion}
use Rattle.lb_rows.specs.Tables.{Version, Tables, is_version}

-- the rows of a table, and one more than the place of the last entry that touched them
pub record Stamped : Type 0 where
  pub version : Version
  pub stamp : ℕ

-- one version with its stamp
abbrev pub stamped_of : StampedVersion → Stamped
stamped_of s = record { version = arc_value s.version; stamp = s.stamp }

-- those that a snapshot keeps, in their order
abbrev pub stamped_in : List StampedVersion → List Stamped
stamped_in xs = map stamped_of xs

-- the version without its stamp
abbrev pub version_of : Stamped → Version
version_of s = s.version

-- the rows of the tables, without stamps
abbrev pub rows_only : List Stamped → Tables
rows_only xs = map version_of xs

-- it is the version of the table with that name
abbrev pub is_stamped : List ℕ → Stamped → Bool
is_stamped n s = is_version n s.version

-- the stamp, and 0 where there is none
abbrev pub stamp_or_zero : Option Stamped → ℕ
stamp_or_zero None = 0
stamp_or_zero (Some s) = s.stamp

-- the stamp of the table with that name, and 0 where it is absent
abbrev pub stamp_of : List ℕ → List Stamped → ℕ
stamp_of n xs = stamp_or_zero (find (is_stamped n) xs)
