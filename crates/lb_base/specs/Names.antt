-- Names: a letter, then letters, digits and `_`, at most 64 bytes. Case does not matter, and a name is kept in upper case.
use Rattle.std.specs.Prelude.{ℕ, ◌≡◌, Bool, true, false, ◌&&◌, ◌||◌, ◌==◌, List, [], ◌∷◌, map, length, nat_le, Option, Some, None, if◌then◌else◌}
use Rattle.std.specs.List.{list_all}
use Rattle.std.specs.Char.{is_ascii_alphabetic, is_ascii_alphanumeric, to_ascii_uppercase}

-- a letter, a digit or `_`
abbrev pub is_name_byte : ℕ → Bool
is_name_byte b = is_ascii_alphanumeric b || b == 95

-- the text spells a name, in any case
abbrev pub is_name : List ℕ → Bool
is_name [] = false
is_name (b ∷ bs) = is_ascii_alphabetic b && nat_le (length (b ∷ bs)) 64 && list_all is_name_byte (b ∷ bs)

-- the text in upper case
abbrev pub folded : List ℕ → List ℕ
folded = map to_ascii_uppercase

-- the name that the text spells
abbrev pub name_of : List ℕ → Option (List ℕ)
name_of text = if is_name text then Some (folded text) else None

-- a name that is folded already
abbrev pub IsFolded : List ℕ → Type 0
IsFolded name = (is_name name ≡ true) × (folded name ≡ name)
