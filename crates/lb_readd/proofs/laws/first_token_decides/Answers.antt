use Rattle.lb_readd.proofs.Choice.{definitions_begin, are_apart, are_all, definitions_decide, others_decide}
use Rattle.lb_readd.proofs.laws.first_token_decides.Goals as goal

pub returns-clause-begins : goal.returns-clause-begins
returns-clause-begins c = definitions_begin

pub returns-clause-apart : goal.returns-clause-apart
returns-clause-apart c = are_apart

pub returns-clause-all : goal.returns-clause-all
returns-clause-all c = are_all

pub returns-clause-definitions : goal.returns-clause-definitions
returns-clause-definitions c = definitions_decide

pub returns-clause-others : goal.returns-clause-others
returns-clause-others c = others_decide
