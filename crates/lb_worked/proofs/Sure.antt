-- The examples of specs/Sure, computed.
use Rattle.std.proofs.Common.{refl}
use Rattle.lb_base.specs.Arithmetic.{in_64_bits, sum_of, product_of}
use Rattle.lb_worked.specs.Sure.{SurePartFirst, StopsAtUnknown, UnderNot, NotSure, InCase}
use Rattle.lb_worked.proofs.Computing.{computing}

pub sure_part_first : SurePartFirst
unfolding in_64_bits sum_of product_of
sure_part_first = simp computing refl

pub stops_at_unknown : StopsAtUnknown
unfolding in_64_bits sum_of product_of
stops_at_unknown = simp computing refl

pub under_not : UnderNot
unfolding in_64_bits sum_of product_of
under_not = simp computing refl

pub not_sure : NotSure
unfolding in_64_bits sum_of product_of
not_sure = simp computing refl

pub in_case : InCase
unfolding in_64_bits sum_of product_of
in_case = simp computing refl
