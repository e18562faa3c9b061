-- The examples of specs/Written, computed.
use Rattle.std.proofs.Common.{refl}
use Rattle.lb_base.specs.Arithmetic.{in_64_bits, sum_of, product_of}
use Rattle.lb_worked.specs.Written.{DoubledKey, KeysAfterRows, KeysOfNewRows, KeepsPlaces, LeavesOthers, GoLast, RowByRow, NoPermission, MaskedSource, OwnValues}
use Rattle.lb_worked.proofs.Computing.{computing}

pub doubled_key : DoubledKey
unfolding in_64_bits sum_of product_of
doubled_key = simp computing refl

pub keys_after_rows : KeysAfterRows
unfolding in_64_bits sum_of product_of
keys_after_rows = simp computing refl

pub keys_of_new_rows : KeysOfNewRows
unfolding in_64_bits sum_of product_of
keys_of_new_rows = simp computing refl

pub keeps_places : KeepsPlaces
unfolding in_64_bits sum_of product_of
keeps_places = simp computing refl

pub leaves_others : LeavesOthers
unfolding in_64_bits sum_of product_of
leaves_others = simp computing refl

pub go_last : GoLast
unfolding in_64_bits sum_of product_of
go_last = simp computing refl

pub row_by_row : RowByRow
unfolding in_64_bits sum_of product_of
row_by_row = simp computing refl

pub no_permission : NoPermission
unfolding in_64_bits sum_of product_of
no_permission = simp computing refl

pub masked_source : MaskedSource
unfolding in_64_bits sum_of product_of
masked_source = simp computing refl

pub own_values : OwnValues
unfolding in_64_bits sum_of product_of
own_values = simp computing refl
