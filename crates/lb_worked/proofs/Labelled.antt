-- The examples of specs/Labelled, computed.
use Rattle.std.proofs.Common.{refl}
use Rattle.lb_base.specs.Arithmetic.{in_64_bits, sum_of, product_of}
use Rattle.lb_worked.specs.Labelled.{WithLabel, WithoutLabel, WithExemption, WholeText, ReadableText, SecuredColumn, UnsecuredColumn}
use Rattle.lb_worked.proofs.Computing.{computing}

pub with_label : WithLabel
unfolding in_64_bits sum_of product_of
with_label = simp computing refl

pub without_label : WithoutLabel
unfolding in_64_bits sum_of product_of
without_label = simp computing refl

pub with_exemption : WithExemption
unfolding in_64_bits sum_of product_of
with_exemption = simp computing refl

pub whole_text : WholeText
unfolding in_64_bits sum_of product_of
whole_text = simp computing refl

pub readable_text : ReadableText
unfolding in_64_bits sum_of product_of
readable_text = simp computing refl

pub secured_column : SecuredColumn
unfolding in_64_bits sum_of product_of
secured_column = simp computing refl

pub unsecured_column : UnsecuredColumn
unfolding in_64_bits sum_of product_of
unsecured_column = simp computing refl
