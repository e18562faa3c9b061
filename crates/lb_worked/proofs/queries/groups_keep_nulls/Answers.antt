use Rattle.lb_worked.proofs.Grouped.{first_rows_order, one_group, no_group, having_true, having_unknown, nulls_not_counted, sum_overflows, sum_in_row_order, max_fits}
use Rattle.lb_worked.proofs.queries.groups_keep_nulls.Goals as goal

pub returns-clause-first_rows_order : goal.returns-clause-first_rows_order
returns-clause-first_rows_order c = first_rows_order

pub returns-clause-one_group : goal.returns-clause-one_group
returns-clause-one_group c = one_group

pub returns-clause-no_group : goal.returns-clause-no_group
returns-clause-no_group c = no_group

pub returns-clause-having_true : goal.returns-clause-having_true
returns-clause-having_true c = having_true

pub returns-clause-having_unknown : goal.returns-clause-having_unknown
returns-clause-having_unknown c = having_unknown

pub returns-clause-nulls_not_counted : goal.returns-clause-nulls_not_counted
returns-clause-nulls_not_counted c = nulls_not_counted

pub returns-clause-sum_overflows : goal.returns-clause-sum_overflows
returns-clause-sum_overflows c = sum_overflows

pub returns-clause-sum_in_row_order : goal.returns-clause-sum_in_row_order
returns-clause-sum_in_row_order c = sum_in_row_order

pub returns-clause-max_fits : goal.returns-clause-max_fits
returns-clause-max_fits c = max_fits
