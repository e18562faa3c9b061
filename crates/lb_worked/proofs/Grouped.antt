-- The examples of specs/Grouped, computed.
use Rattle.std.proofs.Common.{refl}
use Rattle.lb_base.specs.Arithmetic.{in_64_bits, sum_of, product_of}
use Rattle.lb_worked.specs.Grouped.{FirstRowsOrder, OneGroup, NoGroup, HavingTrue, HavingUnknown, NullsNotCounted, SumOverflows, SumInRowOrder, MaxFits}
use Rattle.lb_worked.proofs.Computing.{computing}

pub first_rows_order : FirstRowsOrder
unfolding in_64_bits sum_of product_of
first_rows_order = simp computing refl

pub one_group : OneGroup
unfolding in_64_bits sum_of product_of
one_group = simp computing refl

pub no_group : NoGroup
unfolding in_64_bits sum_of product_of
no_group = simp computing refl

pub having_true : HavingTrue
unfolding in_64_bits sum_of product_of
having_true = simp computing refl

pub having_unknown : HavingUnknown
unfolding in_64_bits sum_of product_of
having_unknown = simp computing refl

pub nulls_not_counted : NullsNotCounted
unfolding in_64_bits sum_of product_of
nulls_not_counted = simp computing refl

pub sum_overflows : SumOverflows
unfolding in_64_bits sum_of product_of
sum_overflows = simp computing refl

pub sum_in_row_order : SumInRowOrder
unfolding in_64_bits sum_of product_of
sum_in_row_order = simp computing refl

pub max_fits : MaxFits
unfolding in_64_bits sum_of product_of
max_fits = simp computing refl
