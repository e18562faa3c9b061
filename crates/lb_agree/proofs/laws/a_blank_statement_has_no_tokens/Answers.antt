use Rattle.lb_agree.proofs.Quits.{blank_is_empty}
use Rattle.lb_agree.proofs.laws.a_blank_statement_has_no_tokens.Goals as goal

pub returns : goal.returns
returns c = blank_is_empty
