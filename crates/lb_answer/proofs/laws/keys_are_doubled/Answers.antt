use Rattle.lb_answer.proofs.Doubled.{doubled_exactly}
use Rattle.lb_answer.proofs.laws.keys_are_doubled.Goals as goal

pub returns : goal.returns
returns c = doubled_exactly
