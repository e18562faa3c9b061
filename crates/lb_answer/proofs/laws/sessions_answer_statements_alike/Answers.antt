use Rattle.lb_answer.proofs.Sessions.{sessions_alike}
use Rattle.lb_answer.proofs.laws.sessions_answer_statements_alike.Goals as goal

pub returns : goal.returns
returns c = sessions_alike
