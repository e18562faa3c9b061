use Rattle.lb_journal.proofs.Touched.{stamps_are_last_touches, one_stamp}
use Rattle.lb_journal.proofs.laws.stamps_are_last_touches.Goals as goal

pub returns-clause-last : goal.returns-clause-last
returns-clause-last c = stamps_are_last_touches

pub returns-clause-one : goal.returns-clause-one
returns-clause-one c = one_stamp
