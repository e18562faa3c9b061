use Rattle.lb_answer.proofs.Chosen.{candidates_are, rows_are}
use Rattle.lb_answer.proofs.laws.candidates_are_kept_rows.Goals as goal

pub returns-clause-kept : goal.returns-clause-kept
returns-clause-kept c = candidates_are

pub returns-clause-rows : goal.returns-clause-rows
returns-clause-rows c = rows_are
