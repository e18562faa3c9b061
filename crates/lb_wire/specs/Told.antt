-- What a source, a sink and a clock tell of themselves before and after a call. Of bytes that were
-- not told before it nothing is said.
use Rattle.std.specs.Prelude.{◌≡◌, ℕ, ◌≤◌, List, [], ◌++◌, length, take, Option, None, Some, ⊤}
use Rattle.std.specs.Io.KnownBytes.{Consumes, Appends}

-- the bytes that were left are those taken, and then the ones left now
abbrev pub Took : Option (List ℕ) → Option (List ℕ) → List ℕ → Type 0
Took before after taken = Consumes before after taken

-- the bytes that were left are those taken, and none is left now
abbrev pub TookAll : Option (List ℕ) → Option (List ℕ) → List ℕ → Type 0
TookAll None after taken = ⊤
TookAll (Some before) after taken = (before ≡ taken) × (after ≡ Some [])

-- the first bytes of a piece, some of them, none or all, were written after what stood there
pub record AppendsPart (before after : Option (List ℕ)) (piece : List ℕ) : Type 0 where
  pub count : ℕ
  pub within : count ≤ length piece
  pub bytes : Appends before after (take count piece)

-- a list that is told now was told before, and has grown by these items at its end
abbrev pub GrewBy : {A : Type 0} → Option (List A) → Option (List A) → List A → Type 0
GrewBy before None more = ⊤
GrewBy None (Some after) more = ⊥
GrewBy (Some before) (Some after) more = after ≡ before ++ more
