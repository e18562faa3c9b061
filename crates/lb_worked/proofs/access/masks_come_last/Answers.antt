use Rattle.lb_worked.proofs.Masked.{aggregates_masked, sorts_unmasked, filters_unmasked, distinct_refused, distinct_allowed, per_item, first_mask, null_row}
use Rattle.lb_worked.proofs.access.masks_come_last.Goals as goal

pub returns-clause-aggregates_masked : goal.returns-clause-aggregates_masked
returns-clause-aggregates_masked c = aggregates_masked

pub returns-clause-sorts_unmasked : goal.returns-clause-sorts_unmasked
returns-clause-sorts_unmasked c = sorts_unmasked

pub returns-clause-filters_unmasked : goal.returns-clause-filters_unmasked
returns-clause-filters_unmasked c = filters_unmasked

pub returns-clause-distinct_refused : goal.returns-clause-distinct_refused
returns-clause-distinct_refused c = distinct_refused

pub returns-clause-distinct_allowed : goal.returns-clause-distinct_allowed
returns-clause-distinct_allowed c = distinct_allowed

pub returns-clause-per_item : goal.returns-clause-per_item
returns-clause-per_item c = per_item

pub returns-clause-first_mask : goal.returns-clause-first_mask
returns-clause-first_mask c = first_mask

pub returns-clause-null_row : goal.returns-clause-null_row
returns-clause-null_row c = null_row
