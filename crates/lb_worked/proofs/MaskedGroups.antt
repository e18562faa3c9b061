-- The examples of specs/MaskedGroups, computed.
use Rattle.std.proofs.Common.{refl}
use Rattle.lb_base.specs.Arithmetic.{in_64_bits, sum_of, product_of}
use Rattle.lb_worked.specs.MaskedGroups.{DistinctUnmasked, DistinctShown, GroupsUnmasked, CountsMasked, HavingUnmasked}
use Rattle.lb_worked.proofs.Computing.{computing}

pub distinct_unmasked : DistinctUnmasked
unfolding in_64_bits sum_of product_of
distinct_unmasked = simp computing refl

pub distinct_shown : DistinctShown
unfolding in_64_bits sum_of product_of
distinct_shown = simp computing refl

pub groups_unmasked : GroupsUnmasked
unfolding in_64_bits sum_of product_of
groups_unmasked = simp computing refl

pub counts_masked : CountsMasked
unfolding in_64_bits sum_of product_of
counts_masked = simp computing refl

pub having_unmasked : HavingUnmasked
unfolding in_64_bits sum_of product_of
having_unmasked = simp computing refl
