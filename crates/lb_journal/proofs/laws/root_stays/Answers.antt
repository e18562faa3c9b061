use Rattle.lb_journal.proofs.Roots.{root_below, root_stays}
use Rattle.lb_journal.proofs.laws.root_stays.Goals as goal

pub returns-clause-below : goal.returns-clause-below
returns-clause-below c = root_below

pub returns-clause-stays : goal.returns-clause-stays
returns-clause-stays c = root_stays
