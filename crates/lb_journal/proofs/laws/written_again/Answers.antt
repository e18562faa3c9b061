use Rattle.lb_journal.proofs.Again.{writes_again}
use Rattle.lb_journal.proofs.laws.written_again.Goals as goal

pub returns : goal.returns
returns c = writes_again
