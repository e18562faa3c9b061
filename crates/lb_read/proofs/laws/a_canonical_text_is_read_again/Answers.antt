use Rattle.lb_read.proofs.Again.{beyond}
use Rattle.lb_read.proofs.Trees.{keeps}
use Rattle.lb_read.proofs.Within.{within}
use Rattle.lb_read.proofs.laws.a_canonical_text_is_read_again.Goals as goal

pub returns-clause-keeps : goal.returns-clause-keeps
returns-clause-keeps c = keeps

pub returns-clause-beyond : goal.returns-clause-beyond
returns-clause-beyond c = beyond

pub returns-clause-within : goal.returns-clause-within
returns-clause-within c = within
