use Rattle.lb_journal.proofs.Stamps.{absent_is_zero, stamps_tell, same_record}
use Rattle.lb_journal.proofs.laws.stamps_tell.Goals as goal

pub returns-clause-there : goal.returns-clause-there
returns-clause-there c = stamps_tell

pub returns-clause-same : goal.returns-clause-same
returns-clause-same c = same_record

pub returns-clause-absent : goal.returns-clause-absent
returns-clause-absent c = absent_is_zero
