use Rattle.lb_worked.proofs.Permitted.{true_before_fault, fault_before_true, disabled_saves_none, false_is_hidden, no_permission, nothing_to_count, seen_before_joined}
use Rattle.lb_worked.proofs.access.permissions_are_tried_in_order.Goals as goal

pub returns-clause-true_before_fault : goal.returns-clause-true_before_fault
returns-clause-true_before_fault c = true_before_fault

pub returns-clause-fault_before_true : goal.returns-clause-fault_before_true
returns-clause-fault_before_true c = fault_before_true

pub returns-clause-disabled_saves_none : goal.returns-clause-disabled_saves_none
returns-clause-disabled_saves_none c = disabled_saves_none

pub returns-clause-false_is_hidden : goal.returns-clause-false_is_hidden
returns-clause-false_is_hidden c = false_is_hidden

pub returns-clause-no_permission : goal.returns-clause-no_permission
returns-clause-no_permission c = no_permission

pub returns-clause-nothing_to_count : goal.returns-clause-nothing_to_count
returns-clause-nothing_to_count c = nothing_to_count

pub returns-clause-seen_before_joined : goal.returns-clause-seen_before_joined
returns-clause-seen_before_joined c = seen_before_joined
