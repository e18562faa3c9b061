use Rattle.lb_agree.proofs.Firsts.{first, stopped}
use Rattle.lb_agree.proofs.laws.the_first_token_stands_after_the_gap.Goals as goal

pub returns-clause-first : goal.returns-clause-first
returns-clause-first c = first

pub returns-clause-stopped : goal.returns-clause-stopped
returns-clause-stopped c = stopped
