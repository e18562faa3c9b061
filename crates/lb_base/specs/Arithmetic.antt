-- Sums and products of 64-bit integers, with null and Overflow.
use Rattle.std.specs.Prelude.{◌&&◌, Bool, true, false, if◌then◌else◌, Ok, Err, ℤ, pos, negsuc, ◌+ℤ◌, ◌-ℤ◌, ◌*ℤ◌, int_le}
use Rattle.lb_base.specs.declared.value.Value.{Value}
use Rattle.lb_base.specs.declared.value.Value.TheVariants.{Null, Int}
use Rattle.lb_base.specs.declared.fault.Fault.TheVariants.{Overflow}
use Rattle.lb_base.specs.Evaluated.{Evaluated}

-- the integer, where it has 64 bits
unfoldable pub in_64_bits : ℤ → Evaluated Value
in_64_bits n = if int_le (negsuc 9_223_372_036_854_775_807) n && int_le n (pos 9_223_372_036_854_775_807) then Ok (Int n) else Err Overflow

-- a sum so far and a further part, which is subtracted where a `-` stands before it; null where one of them is no integer
unfoldable pub sum_of : Value → Bool → Value → Evaluated Value
sum_of (Int a) false (Int b) = in_64_bits (a +ℤ b)
sum_of (Int a) true (Int b) = in_64_bits (a -ℤ b)
sum_of _ minus _ = Ok Null

-- a product so far and a further factor; null where one of them is no integer
unfoldable pub product_of : Value → Value → Evaluated Value
product_of (Int a) (Int b) = in_64_bits (a *ℤ b)
product_of _ _ = Ok Null
