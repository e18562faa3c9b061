use Rattle.lb_mean.proofs.Sessions.{sessions_frame}
use Rattle.lb_mean.proofs.laws.sessions_answer_queries_alike.Goals as goal

pub returns : goal.returns
returns c = sessions_frame
