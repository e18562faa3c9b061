use Rattle.lb_cat.proofs.Marked.{marks_stamps_alone}
use Rattle.lb_cat.proofs.laws.marks_change_stamps_alone.Goals as goal

pub returns : goal.returns
returns c = marks_stamps_alone
