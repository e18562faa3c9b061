use Rattle.lb_answer.proofs.Left.{wrote_exactly}
use Rattle.lb_answer.proofs.laws.rows_are_left_by_writes.Goals as goal

pub returns : goal.returns
returns c = wrote_exactly
