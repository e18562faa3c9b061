use Rattle.std.proofs.Common.{◌≡◌, drop, option_map}
use Rattle.std.specs.Prelude.{find}
use Rattle.std.specs.List.{flat_map}
use Rattle.lb_rows.specs.Lists.{without}
use Rattle.lb_alter.specs.Stored.{names_table, stored_in, stored_name}
use Rattle.lb_cat.specs.Catalog.{is_table}
use Rattle.lb_cat.specs.Stamps.{bare}
use Rattle.lb_mentions.proofs.stored.user_of_table.Given as goal

-- it is in one of the tables that are left
abbrev pub invariant-loop-place : goal.invariant-loop-place
invariant-loop-place l = option_map stored_name (find (names_table l.name) (flat_map stored_in (without (is_table l.name) (bare l.catalog).tables))) ≡ option_map stored_name (find (names_table l.name) (flat_map stored_in (without (is_table l.name) (drop l.place (bare l.catalog).tables))))
