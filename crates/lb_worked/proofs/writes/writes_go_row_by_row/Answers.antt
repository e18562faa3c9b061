use Rattle.lb_worked.proofs.Written.{doubled_key, keys_after_rows, keys_of_new_rows, keeps_places, leaves_others, go_last, row_by_row, no_permission, masked_source, own_values}
use Rattle.lb_worked.proofs.writes.writes_go_row_by_row.Goals as goal

pub returns-clause-doubled_key : goal.returns-clause-doubled_key
returns-clause-doubled_key c = doubled_key

pub returns-clause-keys_after_rows : goal.returns-clause-keys_after_rows
returns-clause-keys_after_rows c = keys_after_rows

pub returns-clause-keys_of_new_rows : goal.returns-clause-keys_of_new_rows
returns-clause-keys_of_new_rows c = keys_of_new_rows

pub returns-clause-keeps_places : goal.returns-clause-keeps_places
returns-clause-keeps_places c = keeps_places

pub returns-clause-leaves_others : goal.returns-clause-leaves_others
returns-clause-leaves_others c = leaves_others

pub returns-clause-go_last : goal.returns-clause-go_last
returns-clause-go_last c = go_last

pub returns-clause-row_by_row : goal.returns-clause-row_by_row
returns-clause-row_by_row c = row_by_row

pub returns-clause-no_permission : goal.returns-clause-no_permission
returns-clause-no_permission c = no_permission

pub returns-clause-masked_source : goal.returns-clause-masked_source
returns-clause-masked_source c = masked_source

pub returns-clause-own_values : goal.returns-clause-own_values
returns-clause-own_values c = own_values
