use Rattle.lb_read.proofs.Texts.{one_byte}
use Rattle.lb_read.proofs.laws.a_text_goes_wrong_at_one_byte.Goals as goal

pub returns : goal.returns
returns c = one_byte
