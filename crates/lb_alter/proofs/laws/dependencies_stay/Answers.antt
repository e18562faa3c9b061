use Rattle.lb_alter.proofs.Steady.{deps_stay, write_deps_stay}
use Rattle.lb_alter.proofs.laws.dependencies_stay.Goals as goal

pub returns-clause-plans : goal.returns-clause-plans
returns-clause-plans c = deps_stay

pub returns-clause-writes : goal.returns-clause-writes
returns-clause-writes c = write_deps_stay
