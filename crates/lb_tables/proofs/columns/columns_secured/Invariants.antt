use Rattle.std.proofs.Common.{◌≡◌, take}
use Rattle.std.specs.Prelude.{option_map}
use Rattle.lb_alter.specs.AlterTable.{change_column, secure}
use Rattle.lb_tables.proofs.columns.columns_secured.Given as goal

-- the columns so far
abbrev pub invariant-loop-column : goal.invariant-loop-column
invariant-loop-column l = l.changed ≡ change_column (secure (option_map (λ m. m.now) l.label)) l.name (take l.column-index l.columns)
