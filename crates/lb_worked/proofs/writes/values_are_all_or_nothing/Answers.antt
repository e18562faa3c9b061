use Rattle.lb_worked.proofs.Given.{in_order, second_faults, null_before_fault, fault_before_null, null_before_keys, doubled_in_values, not_cut, swaps_columns, swaps_backwards}
use Rattle.lb_worked.proofs.writes.values_are_all_or_nothing.Goals as goal

pub returns-clause-in_order : goal.returns-clause-in_order
returns-clause-in_order c = in_order

pub returns-clause-second_faults : goal.returns-clause-second_faults
returns-clause-second_faults c = second_faults

pub returns-clause-null_before_fault : goal.returns-clause-null_before_fault
returns-clause-null_before_fault c = null_before_fault

pub returns-clause-fault_before_null : goal.returns-clause-fault_before_null
returns-clause-fault_before_null c = fault_before_null

pub returns-clause-null_before_keys : goal.returns-clause-null_before_keys
returns-clause-null_before_keys c = null_before_keys

pub returns-clause-doubled_in_values : goal.returns-clause-doubled_in_values
returns-clause-doubled_in_values c = doubled_in_values

pub returns-clause-not_cut : goal.returns-clause-not_cut
returns-clause-not_cut c = not_cut

pub returns-clause-swaps_columns : goal.returns-clause-swaps_columns
returns-clause-swaps_columns c = swaps_columns

pub returns-clause-swaps_backwards : goal.returns-clause-swaps_backwards
returns-clause-swaps_backwards c = swaps_backwards
