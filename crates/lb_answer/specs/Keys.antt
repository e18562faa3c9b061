-- Primary keys: two rows of a table with one value of its key.
use Rattle.std.specs.Prelude.{ℕ, ◌||◌, Bool, false, List, [], ◌∷◌, map, slice_index_or, Option, Some, None}
use Rattle.std.specs.List.{list_any}
use Rattle.lb_base.specs.declared.value.Value.{Value}
use Rattle.lb_base.specs.declared.value.Value.TheVariants as values
use Rattle.lb_base.specs.Compare.{equal_of}
use Rattle.lb_base.specs.Truths.{is_true}

-- two values of a key are one
abbrev pub is_one_key : Value → Value → Bool
is_one_key a b = is_true (equal_of a b)

-- the value of a row at the key's place
abbrev pub key_in : ℕ → List Value → Value
key_in place row = slice_index_or row place values.Null

-- a key is one with a later one
abbrev pub is_doubled : List Value → Bool
is_doubled [] = false
is_doubled (k ∷ ks) = list_any (λ later. is_one_key later k) ks || is_doubled ks

-- the keys of the rows, in order
abbrev pub keys_of : ℕ → List (List Value) → List Value
keys_of place rows = map (key_in place) rows

-- two rows have one key; a table without a primary key has none
abbrev pub has_double : Option ℕ → List (List Value) → Bool
has_double None rows = false
has_double (Some place) rows = is_doubled (keys_of place rows)
