use Rattle.lb_worked.proofs.Chained.{other_chain, later_table}
use Rattle.lb_worked.proofs.queries.names_in_on_belong_to_its_chain.Goals as goal

pub returns-clause-other_chain : goal.returns-clause-other_chain
returns-clause-other_chain c = other_chain

pub returns-clause-later_table : goal.returns-clause-later_table
returns-clause-later_table c = later_table
