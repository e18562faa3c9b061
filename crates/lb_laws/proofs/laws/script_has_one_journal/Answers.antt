use Rattle.lb_laws.proofs.Determined.{one_journal, one_result_list, one_output}
use Rattle.lb_laws.proofs.Reader.{reader}
use Rattle.lb_laws.proofs.laws.script_has_one_journal.Goals as goal

pub returns-clause-journal : goal.returns-clause-journal
returns-clause-journal c = one_journal reader

pub returns-clause-results : goal.returns-clause-results
returns-clause-results c = one_result_list reader

pub returns-clause-output : goal.returns-clause-output
returns-clause-output c = one_output reader
