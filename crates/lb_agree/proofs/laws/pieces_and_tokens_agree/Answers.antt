use Rattle.lb_agree.proofs.Tokened.{whole, stop, no_end}
use Rattle.lb_agree.proofs.laws.pieces_and_tokens_agree.Goals as goal

pub returns-clause-whole : goal.returns-clause-whole
returns-clause-whole c = whole

pub returns-clause-stop : goal.returns-clause-stop
returns-clause-stop c = stop

pub returns-clause-no_end : goal.returns-clause-no_end
returns-clause-no_end c = no_end
