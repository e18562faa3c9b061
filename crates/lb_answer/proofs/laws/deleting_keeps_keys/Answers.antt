use Rattle.lb_answer.proofs.Doubled.{still_single}
use Rattle.lb_answer.proofs.laws.deleting_keeps_keys.Goals as goal

pub returns : goal.returns
returns c = still_single
