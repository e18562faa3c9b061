use Rattle.lb_refr.proofs.DifferentNames.{repeated_on, different_so_far}
use Rattle.lb_refr.proofs.small.have_different_names.Goals as goal

pub returns-then-is_name_among : goal.returns-then-is_name_among
returns-then-is_name_among c =
    repeated_on c.args.elements.now c.loop-first.rest.now c.in-Some.others.now c.in-Some.first.now c.element_name.result.now c.is_name_among.result
    c.loop-first.invariant c.in-Some.ensures.cases.0 c.element_name.ensures c.is_name_among.ensures c.if-is_name_among.true

pub loop-first-preserved : goal.loop-first-preserved
loop-first-preserved c =
    different_so_far c.args.elements.now c.loop-first.rest.now c.in-Some.others.now c.in-Some.first.now c.element_name.result.now c.is_name_among.result
    c.loop-first.invariant c.in-Some.ensures.cases.0 c.element_name.ensures c.is_name_among.ensures c.if-is_name_among.false
