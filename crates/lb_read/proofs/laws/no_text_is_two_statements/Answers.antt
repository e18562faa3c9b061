use Rattle.lb_read.proofs.Trees.{one_statement}
use Rattle.lb_read.proofs.laws.no_text_is_two_statements.Goals as goal

pub returns : goal.returns
returns c = one_statement
