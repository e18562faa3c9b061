use Rattle.lb_readq.proofs.Whole.{unique}
use Rattle.lb_readq.proofs.Writes.{whole}
use Rattle.lb_readq.proofs.laws.no_tokens_spell_two_queries_or_writes.Goals as goal

pub returns : goal.returns
returns c = unique whole
