-- A name in upper case is a name, and upper case stays as it is.
use Rattle.std.proofs.Common.{Bool, true, false, ◌≡◌, ℕ, ◌+◌, ◌-◌, ◌<◌, ◌≤◌, List, [], ◌∷◌, map, length, refl, sym, ap, ◌∙◌, arith, rules}
use Rattle.std.specs.Prelude.{nat_le, ◌&&◌}
use Rattle.std.specs.List.{list_all}
use Rattle.std.specs.Char.{is_ascii_alphabetic, is_ascii_alphanumeric, to_ascii_uppercase}
use Rattle.std.proofs.lemmas.Bool.Decides.{nat_tests}
use Rattle.std.proofs.lemmas.Str.Ascii.{uppercase-uppercase}
use Rattle.lb_base.specs.Names.{is_name_byte, is_name, folded, IsFolded}

upper_letter : (b : ℕ) → is_ascii_alphabetic b ≡ true → is_ascii_alphabetic (to_ascii_uppercase b) ≡ true
upper_letter b h = grind (arith, nat_tests)

pub upper_byte : (b : ℕ) → is_name_byte b ≡ true → is_name_byte (to_ascii_uppercase b) ≡ true
upper_byte b h = grind (arith, nat_tests)

and_parts : (a b : Bool) → (a && b) ≡ true → (a ≡ true) × (b ≡ true)
and_parts true true h = (refl, refl)
and_parts true false h = absurd cc
and_parts false b h = absurd cc

and_made : (a b : Bool) → a ≡ true → b ≡ true → (a && b) ≡ true
and_made a b h i = rw (h, i) refl

upper_bytes : (bs : List ℕ) → list_all is_name_byte bs ≡ true → list_all is_name_byte (folded bs) ≡ true
upper_bytes [] h = refl
upper_bytes (b ∷ bs) h =
    let p = and_parts (is_name_byte b) (list_all is_name_byte bs) h in
    and_made _ _ (upper_byte b p.0) (upper_bytes bs p.1)

folded_length : (bs : List ℕ) → length (folded bs) ≡ length bs
folded_length [] = refl
folded_length (b ∷ bs) = grind (arith, folded_length bs)

pub folded_again : (bs : List ℕ) → folded (folded bs) ≡ folded bs
folded_again [] = refl
folded_again (b ∷ bs) = rw (uppercase-uppercase b) (ap (λ (t : List ℕ). to_ascii_uppercase b ∷ t) (folded_again bs))

pub folded_name : (text : List ℕ) → is_name text ≡ true → IsFolded (folded text)
folded_name [] h = absurd cc
folded_name (b ∷ bs) h =
    let p = and_parts (is_ascii_alphabetic b && nat_le (length (b ∷ bs)) 64) (list_all is_name_byte (b ∷ bs)) h in
    let q = and_parts (is_ascii_alphabetic b) (nat_le (length (b ∷ bs)) 64) p.0 in
    let short : nat_le (length (folded (b ∷ bs))) 64 ≡ true = rw (folded_length (b ∷ bs)) q.1 in
    (and_made _ _ (and_made _ _ (upper_letter b q.0) short) (upper_bytes (b ∷ bs) p.1), folded_again (b ∷ bs))
