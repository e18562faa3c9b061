use Rattle.lb_laws.proofs.One.{rep_one}
use Rattle.lb_laws.proofs.Reader.{reader}
use Rattle.lb_laws.proofs.laws.place_has_one_reply.Goals as goal

pub returns : goal.returns
returns c = rep_one reader
