use Rattle.lb_laws.proofs.Reader.{reader}
use Rattle.lb_laws.proofs.laws.whole_journal_has_one_replay.Goals as goal

pub returns-clause-state : goal.returns-clause-state
returns-clause-state c = c.a_journal_has_one_replay.ensures.state reader.apart

pub returns-clause-reply : goal.returns-clause-reply
returns-clause-reply c = c.a_journal_has_one_replay.ensures.reply reader.apart
