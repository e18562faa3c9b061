-- The names of a part taken one after another.
use Rattle.std.specs.Prelude.{ℕ, ◌+◌, ◌^◌, ◌==◌, ◌||◌, List, [], ◌∷◌, length, bit_or, Option, None, Some, Result, Ok, Err, if◌then◌else◌}
use Rattle.std.specs.List.{slice_split}
use Rattle.lb_label.specs.declared.kind.ComponentKind.{ComponentKind}
use Rattle.lb_label.specs.declared.kind.ComponentKind.TheVariants.{Set, Array, Tree}
use Rattle.lb_label.specs.Component.{Definition, number_of}

-- the part with one element more, if it may have it
abbrev pub with_number : ComponentKind → ℕ → Option ℕ → Option ℕ
with_number Array part None = None
with_number Set part None = None
with_number Tree part None = None
with_number Array part (Some n) = if (part == 0) || (part == n + 1) then Some (n + 1) else None
with_number Set part (Some n) = Some (bit_or part (2 ^ n))
with_number Tree part (Some n) = Some (bit_or part (2 ^ n))

-- the part with the element of that name more, if it may have it
abbrev pub with_name : Definition → ℕ → List ℕ → Option ℕ
with_name c part name = with_number c.kind part (number_of c name)

-- goes on with the part, or fails at that place
abbrev pub or_fails_at : ℕ → (ℕ → Result ℕ ℕ) → Option ℕ → Result ℕ ℕ
or_fails_at at next None = Err at
or_fails_at at next (Some part) = next part

-- a part with the elements of these names more, or the place of the first one that it may not have
abbrev pub with_names : Definition → ℕ → List (List ℕ) → ℕ → Result ℕ ℕ
with_names c at [] part = Ok part
with_names c at (name ∷ names) part = or_fails_at at (with_names c (at + length name + 1) names) (with_name c part name)

-- the parts of what is left of a text
abbrev pub split_left : ℕ → Option (List ℕ) → List (List ℕ)
split_left c None = []
split_left c (Some text) = slice_split (λ byte. byte == c) text
