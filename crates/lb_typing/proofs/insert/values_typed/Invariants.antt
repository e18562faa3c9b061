use Rattle.std.proofs.Common.{◌≡◌, drop, length}
use Rattle.lb_names.specs.Statements as statements
use Rattle.lb_scope.specs.Found.{catalogue}
use Rattle.lb_types.specs.Given.{kinds_in}
use Rattle.lb_typing.proofs.insert.values_typed.Given as goal

abbrev pub invariant-loop-i : goal.invariant-loop-i
invariant-loop-i l = (length l.columns ≡ length l.values) × (statements.values_typed (catalogue l.catalog) (kinds_in l.columns) l.values l.number ≡ statements.values_typed (catalogue l.catalog) (kinds_in (drop l.i l.columns)) (drop l.i l.values) l.n)
