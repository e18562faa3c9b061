use Rattle.lb_split.proofs.Appended.{first_stays, next_stays}
use Rattle.lb_split.proofs.laws.a_piece_that_has_ended_stays.Goals as goal

pub returns-clause-piece : goal.returns-clause-piece
returns-clause-piece c = first_stays

pub returns-clause-next : goal.returns-clause-next
returns-clause-next c = next_stays
