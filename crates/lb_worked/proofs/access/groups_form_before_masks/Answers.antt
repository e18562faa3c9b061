use Rattle.lb_worked.proofs.MaskedGroups.{distinct_unmasked, distinct_shown, groups_unmasked, counts_masked, having_unmasked}
use Rattle.lb_worked.proofs.access.groups_form_before_masks.Goals as goal

pub returns-clause-distinct_unmasked : goal.returns-clause-distinct_unmasked
returns-clause-distinct_unmasked c = distinct_unmasked

pub returns-clause-distinct_shown : goal.returns-clause-distinct_shown
returns-clause-distinct_shown c = distinct_shown

pub returns-clause-groups_unmasked : goal.returns-clause-groups_unmasked
returns-clause-groups_unmasked c = groups_unmasked

pub returns-clause-counts_masked : goal.returns-clause-counts_masked
returns-clause-counts_masked c = counts_masked

pub returns-clause-having_unmasked : goal.returns-clause-having_unmasked
returns-clause-having_unmasked c = having_unmasked
