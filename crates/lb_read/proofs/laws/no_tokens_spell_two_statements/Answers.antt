use Rattle.lb_read.proofs.Trees.{one_tree}
use Rattle.lb_read.proofs.laws.no_tokens_spell_two_statements.Goals as goal

pub returns : goal.returns
returns c = one_tree
