use Rattle.lb_journal.proofs.Lasting.{right_gives, right_lasts}
use Rattle.lb_journal.proofs.laws.right_plans_last.Goals as goal

pub returns-clause-gives : goal.returns-clause-gives
returns-clause-gives g c = right_gives _ _

pub returns-clause-lasts : goal.returns-clause-lasts
returns-clause-lasts g c = right_lasts _ _
