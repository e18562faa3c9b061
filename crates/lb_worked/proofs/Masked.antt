-- The examples of specs/Masked, computed.
use Rattle.std.proofs.Common.{refl}
use Rattle.lb_base.specs.Arithmetic.{in_64_bits, sum_of, product_of}
use Rattle.lb_worked.specs.Masked.{AggregatesMasked, SortsUnmasked, FiltersUnmasked, DistinctRefused, DistinctAllowed, PerItem, FirstMask, NullRow}
use Rattle.lb_worked.proofs.Computing.{computing}

pub aggregates_masked : AggregatesMasked
unfolding in_64_bits sum_of product_of
aggregates_masked = simp computing refl

pub sorts_unmasked : SortsUnmasked
unfolding in_64_bits sum_of product_of
sorts_unmasked = simp computing refl

pub filters_unmasked : FiltersUnmasked
unfolding in_64_bits sum_of product_of
filters_unmasked = simp computing refl

pub distinct_refused : DistinctRefused
unfolding in_64_bits sum_of product_of
distinct_refused = simp computing refl

pub distinct_allowed : DistinctAllowed
unfolding in_64_bits sum_of product_of
distinct_allowed = simp computing refl

pub per_item : PerItem
unfolding in_64_bits sum_of product_of
per_item = simp computing refl

pub first_mask : FirstMask
unfolding in_64_bits sum_of product_of
first_mask = simp computing refl

pub null_row : NullRow
unfolding in_64_bits sum_of product_of
null_row = simp computing refl
