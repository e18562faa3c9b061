-- The examples of specs/Refused, computed.
use Rattle.std.proofs.Common.{refl}
use Rattle.lb_base.specs.Arithmetic.{in_64_bits, sum_of, product_of}
use Rattle.lb_worked.specs.Refused.{MaySelect, MayNotSelect, MayNotUpdate, MayDelete, OwnerMay, SetMasked, SetOwn, SetTarget}
use Rattle.lb_worked.proofs.Computing.{computing}

pub may_select : MaySelect
unfolding in_64_bits sum_of product_of
may_select = simp computing refl

pub may_not_select : MayNotSelect
unfolding in_64_bits sum_of product_of
may_not_select = simp computing refl

pub may_not_update : MayNotUpdate
unfolding in_64_bits sum_of product_of
may_not_update = refl

pub may_delete : MayDelete
unfolding in_64_bits sum_of product_of
may_delete = simp computing refl

pub owner_may : OwnerMay
unfolding in_64_bits sum_of product_of
owner_may = simp computing refl

pub set_masked : SetMasked
unfolding in_64_bits sum_of product_of
set_masked = simp computing refl

pub set_own : SetOwn
unfolding in_64_bits sum_of product_of
set_own = simp computing refl

pub set_target : SetTarget
unfolding in_64_bits sum_of product_of
set_target = simp computing refl
