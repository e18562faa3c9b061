use Rattle.std.proofs.Common.{◌≡◌, drop}
use Rattle.lb_names.specs.Statements as statements
use Rattle.lb_scope.specs.Found.{catalogue}
use Rattle.lb_types.specs.Given.{kinds_in}
use Rattle.lb_typing.proofs.insert.rows_typed.Given as goal

abbrev pub invariant-loop-row : goal.invariant-loop-row
invariant-loop-row l = statements.rows_typed (catalogue l.catalog) (kinds_in l.columns) l.rows 0 ≡ statements.rows_typed (catalogue l.catalog) (kinds_in l.columns) (drop l.row-index l.rows) l.n
