use Rattle.lb_agree.proofs.Tokened.{read_whole}
use Rattle.lb_agree.proofs.laws.a_statement_that_is_read_is_cut_nowhere.Goals as goal

pub returns : goal.returns
returns c = read_whole
