-- The examples of specs/Orders, computed.
use Rattle.std.proofs.Common.{refl}
use Rattle.lb_base.specs.Arithmetic.{in_64_bits, sum_of, product_of}
use Rattle.lb_worked.specs.Orders.{OutputsLast, LastFirst, DistinctFirst, KeysBeforeCut, InStops, BetweenStops, CoalesceStops, ScalarEvaluatesAll, ScalarHasOneRow, ExistsHasNoOutputs, LeftJoinNulls}
use Rattle.lb_worked.proofs.Computing.{computing}

pub outputs_last : OutputsLast
unfolding in_64_bits sum_of product_of
outputs_last = simp computing refl

pub last_first : LastFirst
unfolding in_64_bits sum_of product_of
last_first = simp computing refl

pub distinct_first : DistinctFirst
unfolding in_64_bits sum_of product_of
distinct_first = simp computing refl

pub keys_before_cut : KeysBeforeCut
unfolding in_64_bits sum_of product_of
keys_before_cut = simp computing refl

pub in_stops : InStops
unfolding in_64_bits sum_of product_of
in_stops = simp computing refl

pub between_stops : BetweenStops
unfolding in_64_bits sum_of product_of
between_stops = simp computing refl

pub coalesce_stops : CoalesceStops
unfolding in_64_bits sum_of product_of
coalesce_stops = simp computing refl

pub scalar_evaluates_all : ScalarEvaluatesAll
unfolding in_64_bits sum_of product_of
scalar_evaluates_all = simp computing refl

pub scalar_has_one_row : ScalarHasOneRow
unfolding in_64_bits sum_of product_of
scalar_has_one_row = simp computing refl

pub exists_has_no_outputs : ExistsHasNoOutputs
unfolding in_64_bits sum_of product_of
exists_has_no_outputs = simp computing refl

pub left_join_nulls : LeftJoinNulls
unfolding in_64_bits sum_of product_of
left_join_nulls = simp computing refl
