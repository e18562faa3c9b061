use Rattle.lb_readq.proofs.Whole.{unique}
use Rattle.lb_readd.proofs.Defined.{whole}
use Rattle.lb_readd.proofs.laws.no_tokens_have_two_definitions.Goals as goal

pub returns : goal.returns
returns c = unique whole
