use Rattle.lb_readq.proofs.Whole.{judges, complete}
use Rattle.lb_readd.specs.Defining.{whole_at}
use Rattle.lb_readd.proofs.Defined.{whole}
use Rattle.lb_readd.proofs.laws.defining_is_exact.Goals as goal

pub returns-clause-judged : goal.returns-clause-judged
unfolding whole_at
returns-clause-judged c = judges whole

pub returns-clause-complete : goal.returns-clause-complete
unfolding whole_at
returns-clause-complete c = complete whole
