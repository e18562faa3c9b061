use Rattle.lb_laws.proofs.One.{replay_one}
use Rattle.lb_laws.proofs.Reader.{reader}
use Rattle.lb_laws.proofs.laws.journal_has_one_replay.Goals as goal

pub returns : goal.returns
returns c = replay_one reader
