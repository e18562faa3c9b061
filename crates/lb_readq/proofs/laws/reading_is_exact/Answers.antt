use Rattle.lb_readq.specs.Queries.{statement_at}
use Rattle.lb_readq.proofs.Whole.{judges, complete, starts}
use Rattle.lb_readq.proofs.Writes.{whole}
use Rattle.lb_readq.proofs.laws.reading_is_exact.Goals as goal

pub returns-clause-judged : goal.returns-clause-judged
unfolding statement_at
returns-clause-judged c = judges whole

pub returns-clause-complete : goal.returns-clause-complete
unfolding statement_at
returns-clause-complete c = complete whole

pub returns-clause-starts : goal.returns-clause-starts
returns-clause-starts c = starts whole
