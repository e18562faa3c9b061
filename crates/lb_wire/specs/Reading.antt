-- Reading a whole input of at most so many bytes.
use Rattle.std.specs.Prelude.{◌≡◌, ℕ, ◌+◌, ◌≤◌, ◌<◌, ◌↔◌, List, length, Option, Result, Err}
use Rattle.lb_wire.specs.declared.transfer.InputFault.{InputFault}
use Rattle.lb_wire.specs.declared.transfer.InputFault.TheVariants.{TooLong}
use Rattle.lb_wire.specs.Told.{Took}

-- The bytes that the source gave in the call: at most one more than the limit, and that one exactly
-- where the answer is that the input was too long.
pub record TookUpTo {T : Type 0} (before after : Option (List ℕ)) (most : ℕ)
    (result : Result T InputFault) : Type 0 where
  pub taken : List ℕ
  pub took : Took before after taken
  pub bound : length taken ≤ most + 1
  pub too_long : (result ≡ Err TooLong) ↔ (most < length taken)
