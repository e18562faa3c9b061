-- The whole input of a program: how many bytes it may have, and what the source gave of it. Every program's top call cites these.
use Rattle.std.specs.Prelude.{ℕ, ◌≤◌, ◌<◌, List, length, Option, None, Some}
use Rattle.lb_wire.specs.Told.{Took, TookAll}

-- the most bytes of an input
abbrev pub most_input_bytes : ℕ
most_input_bytes = 16_777_216

-- the whole input was read, and has no more bytes than that
pub record WasRead (left left_now : Option (List ℕ)) (input : List ℕ) : Type 0 where
  pub all : TookAll left left_now input
  pub within : length input ≤ most_input_bytes

-- the source gave more bytes than that
pub record WasTooLong (left left_now : Option (List ℕ)) : Type 0 where
  pub taken : List ℕ
  pub took : Took left left_now taken
  pub more : most_input_bytes < length taken

-- nothing is amiss in what was handed in: the source tells the bytes that it has left, and they are no more than that
abbrev pub IsRunnable : Option (List ℕ) → Type 0
IsRunnable None = ⊥
IsRunnable (Some input) = length input ≤ most_input_bytes
