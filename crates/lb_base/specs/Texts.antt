-- `||`, SUBSTR and LENGTH. A text is its bytes; SUBSTR and LENGTH count its characters.
use Rattle.std.specs.Prelude.{ℕ, suc, ◌&&◌, Bool, if◌then◌else◌, List, [], ◌∷◌, ◌++◌, length, Option, Some, None, ℤ, pos, ◌+ℤ◌, int_lt, int_le}
use Rattle.std.specs.Str.{chars, encode_utf8_all}
use Rattle.lb_base.specs.declared.value.Value.{Value}
use Rattle.lb_base.specs.declared.value.Value.TheVariants.{Null, Int, Text}

-- `||`: a text so far and a further one; null where one of them is no text
abbrev pub concatenated : Value → Value → Value
concatenated (Text a) (Text b) = Text (a ++ b)
concatenated _ _ = Null

-- the characters whose places pass the test, where the first has the given place
abbrev pub at_places : (ℤ → Bool) → ℕ → List ℕ → List ℕ
at_places passes place [] = []
at_places passes place (c ∷ rest) = if passes (pos place) then c ∷ at_places passes (suc place) rest else at_places passes (suc place) rest

-- the text of those characters, whose places count from 1
abbrev pub piece : List ℕ → (ℤ → Bool) → Value
piece text passes = Text (encode_utf8_all (at_places passes 1 (chars text)))

-- SUBSTR(t, s, n): the characters at the places p with s <= p and p < s + n, over unbounded integers; without n all from s on
abbrev pub substring : Value → Value → Option Value → Value
substring (Text t) (Int s) None = piece t (λ p. int_le s p)
substring (Text t) (Int s) (Some (Int n)) = piece t (λ p. int_le s p && int_lt p (s +ℤ n))
substring _ _ _ = Null

-- LENGTH: how many characters a text has
abbrev pub char_count : Value → Value
char_count (Text t) = Int (pos (length (chars t)))
char_count _ = Null
