-- The examples of specs/Stored, computed.
use Rattle.std.proofs.Common.{refl}
use Rattle.lb_base.specs.Arithmetic.{in_64_bits, sum_of, product_of}
use Rattle.lb_worked.specs.Stored.{TakesOwnLabel, KeepsLabel, NullIsNotGiven, ReadableNotWritable, FirstComponent, Overridden, GivenWithoutLabel, NoOwnLabel, HiddenKey, SecuredColumn}
use Rattle.lb_worked.proofs.Computing.{computing}

pub takes_own_label : TakesOwnLabel
unfolding in_64_bits sum_of product_of
takes_own_label = simp computing refl

pub keeps_label : KeepsLabel
unfolding in_64_bits sum_of product_of
keeps_label = simp computing refl

pub null_is_not_given : NullIsNotGiven
unfolding in_64_bits sum_of product_of
null_is_not_given = simp computing refl

pub readable_not_writable : ReadableNotWritable
unfolding in_64_bits sum_of product_of
readable_not_writable = simp computing refl

pub first_component : FirstComponent
unfolding in_64_bits sum_of product_of
first_component = simp computing refl

pub overridden : Overridden
unfolding in_64_bits sum_of product_of
overridden = simp computing refl

pub given_without_label : GivenWithoutLabel
unfolding in_64_bits sum_of product_of
given_without_label = simp computing refl

pub no_own_label : NoOwnLabel
unfolding in_64_bits sum_of product_of
no_own_label = simp computing refl

pub hidden_key : HiddenKey
unfolding in_64_bits sum_of product_of
hidden_key = simp computing refl

pub secured_column : SecuredColumn
unfolding in_64_bits sum_of product_of
secured_column = simp computing refl
