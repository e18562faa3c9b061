use Rattle.lb_agree.proofs.Quits.{quit_is_quit}
use Rattle.lb_agree.proofs.laws.quit_is_its_one_token.Goals as goal

pub returns : goal.returns
returns c = quit_is_quit
