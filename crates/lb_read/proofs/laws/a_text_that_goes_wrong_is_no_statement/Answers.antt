use Rattle.lb_read.proofs.Texts.{not_both}
use Rattle.lb_read.proofs.laws.a_text_that_goes_wrong_is_no_statement.Goals as goal

pub returns : goal.returns
returns c = not_both
