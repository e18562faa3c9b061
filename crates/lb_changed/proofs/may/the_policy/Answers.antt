use Rattle.std.specs.Arc.{arc_value}
use Rattle.lb_changed.proofs.Found.{policy_found}
use Rattle.lb_changed.proofs.may.the_policy.Goals as goal

pub returns-in-Some-clause-stamp : goal.returns-in-Some-clause-stamp
returns-in-Some-clause-stamp c = policy_found c.args.catalog.now c.args.name.now (arc_value c.in-Some.policy.now) c.in-Some.ensures.kept
