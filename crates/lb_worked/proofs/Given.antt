-- The examples of specs/Given, computed.
use Rattle.std.proofs.Common.{refl}
use Rattle.lb_base.specs.Arithmetic.{in_64_bits, sum_of, product_of}
use Rattle.lb_worked.specs.Given.{InOrder, SecondFaults, NullBeforeFault, FaultBeforeNull, NullBeforeKeys, DoubledInValues, NotCut, SwapsColumns, SwapsBackwards}
use Rattle.lb_worked.proofs.Computing.{computing}

pub in_order : InOrder
unfolding in_64_bits sum_of product_of
in_order = simp computing refl

pub second_faults : SecondFaults
unfolding in_64_bits sum_of product_of
second_faults = simp computing refl

pub null_before_fault : NullBeforeFault
unfolding in_64_bits sum_of product_of
null_before_fault = simp computing refl

pub fault_before_null : FaultBeforeNull
unfolding in_64_bits sum_of product_of
fault_before_null = simp computing refl

pub null_before_keys : NullBeforeKeys
unfolding in_64_bits sum_of product_of
null_before_keys = simp computing refl

pub doubled_in_values : DoubledInValues
unfolding in_64_bits sum_of product_of
doubled_in_values = simp computing refl

pub not_cut : NotCut
unfolding in_64_bits sum_of product_of
not_cut = simp computing refl

pub swaps_columns : SwapsColumns
unfolding in_64_bits sum_of product_of
swaps_columns = simp computing refl

pub swaps_backwards : SwapsBackwards
unfolding in_64_bits sum_of product_of
swaps_backwards = simp computing refl
