use Rattle.lb_journal.proofs.Answering.{answer_stays}
use Rattle.lb_journal.proofs.laws.answers_stay.Goals as goal

pub returns : goal.returns
returns c = answer_stays
