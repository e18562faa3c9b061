use Rattle.lb_worked.proofs.Orders.{outputs_last, last_first, distinct_first, keys_before_cut, in_stops, between_stops, coalesce_stops, scalar_evaluates_all, scalar_has_one_row, exists_has_no_outputs, left_join_nulls}
use Rattle.lb_worked.proofs.queries.work_goes_in_order.Goals as goal

pub returns-clause-outputs_last : goal.returns-clause-outputs_last
returns-clause-outputs_last c = outputs_last

pub returns-clause-last_first : goal.returns-clause-last_first
returns-clause-last_first c = last_first

pub returns-clause-distinct_first : goal.returns-clause-distinct_first
returns-clause-distinct_first c = distinct_first

pub returns-clause-keys_before_cut : goal.returns-clause-keys_before_cut
returns-clause-keys_before_cut c = keys_before_cut

pub returns-clause-in_stops : goal.returns-clause-in_stops
returns-clause-in_stops c = in_stops

pub returns-clause-between_stops : goal.returns-clause-between_stops
returns-clause-between_stops c = between_stops

pub returns-clause-coalesce_stops : goal.returns-clause-coalesce_stops
returns-clause-coalesce_stops c = coalesce_stops

pub returns-clause-scalar_evaluates_all : goal.returns-clause-scalar_evaluates_all
returns-clause-scalar_evaluates_all c = scalar_evaluates_all

pub returns-clause-scalar_has_one_row : goal.returns-clause-scalar_has_one_row
returns-clause-scalar_has_one_row c = scalar_has_one_row

pub returns-clause-exists_has_no_outputs : goal.returns-clause-exists_has_no_outputs
returns-clause-exists_has_no_outputs c = exists_has_no_outputs

pub returns-clause-left_join_nulls : goal.returns-clause-left_join_nulls
returns-clause-left_join_nulls c = left_join_nulls
