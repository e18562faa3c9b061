use Rattle.std.proofs.Common.{◌∙◌, map}
use Rattle.std.proofs.lemmas.Result.{err_from_is_err_and}
use Rattle.lb_alter.specs.Naming.{field_of}
use Rattle.lb_scope.specs.Found.{catalogue}
use Rattle.lb_types.specs.Given.{place_in}
use Rattle.lb_types.proofs.Steps.{onto, stops_at}
use Rattle.lb_typing.proofs.Loops.{assignments_at}
use Rattle.lb_typing.proofs.statements.assignments_typed.Goals as goal

pub returns-in_err-after : goal.returns-in_err-after
returns-in_err-after c =
    let C = catalogue c.args.catalog.now in
    let p = err_from_is_err_and c.from_residual.result c.from_residual.ensures.1 in
    rw (p.1, p.2) (stops_at c.in_err-after.field-0.0 _ _ _
    (c.loop-assignment.invariant ∙ assignments_at C (place_in C c.args.place) (map field_of c.args.columns.now) c.args.assignments.now c.loop-assignment.assignment-index c.loop-assignment.n c.assignment-item.result c.loop-assignment-test.true c.assignment-item.is)
    c.in_err-after.ensures)

pub loop-assignment-preserved : goal.loop-assignment-preserved
loop-assignment-preserved c =
    let C = catalogue c.args.catalog.now in
    onto _ _ _ _
    (c.loop-assignment.invariant ∙ assignments_at C (place_in C c.args.place) (map field_of c.args.columns.now) c.args.assignments.now c.loop-assignment.assignment-index c.loop-assignment.n c.assignment-item.result c.loop-assignment-test.true c.assignment-item.is)
    c.in_ok-after.ensures
