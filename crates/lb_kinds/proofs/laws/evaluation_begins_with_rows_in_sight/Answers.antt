use Rattle.lb_kinds.proofs.Begins.{nothing_holds, target_holds, rows_hold, joined_rows_fit}
use Rattle.lb_kinds.proofs.laws.evaluation_begins_with_rows_in_sight.Goals as goal

pub returns-clause-nothing : goal.returns-clause-nothing
returns-clause-nothing c = nothing_holds

pub returns-clause-target : goal.returns-clause-target
returns-clause-target c = target_holds

pub returns-clause-rows : goal.returns-clause-rows
returns-clause-rows c = rows_hold

pub returns-clause-joined : goal.returns-clause-joined
returns-clause-joined c = joined_rows_fit
