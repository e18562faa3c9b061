use Rattle.lb_journal.proofs.Writes.{write_dependencies_last}
use Rattle.lb_journal.proofs.laws.write_dependencies_last.Goals as goal

pub returns : goal.returns
returns c = write_dependencies_last
