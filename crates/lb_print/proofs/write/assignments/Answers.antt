use Rattle.lb_tok.specs.declared.kind.Kind.TheVariants as kinds
use Rattle.lb_tok.specs.Canonical.{assignment_pieces}
use Rattle.lb_page.proofs.Loops.{separated_more}
use Rattle.lb_print.proofs.write.assignments.Goals as goal

pub loop-place-preserved : goal.loop-place-preserved
loop-place-preserved c =
    separated_more kinds.Comma assignment_pieces c.args.page.now c.loop-place.page c.separator.new.page _ c.args.assignments.now c.loop-place.place c.index-assignments-place.result c.loop-place-test.true c.index-assignments-place.is c.loop-place.invariant c.in_ok-separator.ensures c.in_ok-assignment.ensures
