use Rattle.lb_kinds.proofs.Given.{values_fit, assignments_fit, checked_masks_fit}
use Rattle.lb_kinds.proofs.Inserted.{inserted_rows_fit}
use Rattle.lb_kinds.proofs.laws.typed_writes_give_values_of_their_columns.Goals as goal

pub returns-clause-values : goal.returns-clause-values
returns-clause-values c = values_fit

pub returns-clause-assignments : goal.returns-clause-assignments
returns-clause-assignments c = assignments_fit

pub returns-clause-query : goal.returns-clause-query
returns-clause-query c = inserted_rows_fit

pub returns-clause-masks : goal.returns-clause-masks
returns-clause-masks c = checked_masks_fit
