-- Doubling the quotes of a text is doubling those of its parts: for the loop that prints a text part by part.
use Rattle.std.proofs.Common.{Bool, true, false, cond, ◌≡◌, ℕ, List, [], ◌∷◌, ◌++◌, refl, sym, ap, ◌∙◌, append_assoc, arith, ◌+◌, ◌/◌, ◌%◌, ◌≤◌, ltb, lit≤}
use Rattle.std.proofs.lemmas.Bool.Decides.{nat_tests}
use lib.Utf8.{encode, next}
use Rattle.std.specs.Prelude.{◌==◌}
use Rattle.lb_tok.specs.Lexing.{doubled}

step : (b : Bool) (x : ℕ) (xs ys : List ℕ) → cond b (39 ∷ 39 ∷ (xs ++ ys)) (x ∷ (xs ++ ys)) ≡ cond b (39 ∷ 39 ∷ xs) (x ∷ xs) ++ ys
step true x xs ys = refl
step false x xs ys = refl

pub doubled-append : (xs ys : List ℕ) → doubled (xs ++ ys) ≡ doubled xs ++ doubled ys
doubled-append [] ys = refl
doubled-append (x ∷ xs) ys = rw (doubled-append xs ys) (step (x == 39) x (doubled xs) (doubled ys))

-- what is left begins with a character
pub one_char : (out c rest now before all : List ℕ) → out ++ doubled before ≡ all → before ≡ c ++ rest → now ≡ out ++ doubled c → now ++ doubled rest ≡ all
one_char out c rest now before all h e n = rw n (append_assoc out (doubled c) (doubled rest) ∙ ap (λ (t : List ℕ). out ++ t) (sym (doubled-append c rest) ∙ ap doubled (sym e)) ∙ h)

stays : (x : ℕ) (xs : List ℕ) → (x == 39) ≡ false → doubled xs ≡ xs → doubled (x ∷ xs) ≡ x ∷ xs
stays x xs e h = rw e (ap (λ (t : List ℕ). x ∷ t) h)

high : (n x : ℕ) → 40 ≤ n → (n + x == 39) ≡ false
high n x le = grind (arith, nat_tests)

by_width : (a b c : Bool) (w x y z : List ℕ) → doubled w ≡ w → doubled x ≡ x → doubled y ≡ y → doubled z ≡ z → doubled (cond a w (cond b x (cond c y z))) ≡ cond a w (cond b x (cond c y z))
by_width true b c w x y z p q r s = p
by_width false true c w x y z p q r s = q
by_width false false true w x y z p q r s = r
by_width false false false w x y z p q r s = s

-- a character that is no quote stays
pub doubled_char : (c : ℕ) → (c ≡ 39 → ⊥) → doubled (encode c) ≡ encode c
unfolding encode
doubled_char c ne =
    let one : (c == 39) ≡ false = grind (arith, nat_tests) in
    let last : doubled (next c ∷ []) ≡ next c ∷ [] = stays (next c) [] (high 128 (c % 64) (lit≤ tt)) refl in
    let second : doubled (next (c / 64) ∷ next c ∷ []) ≡ next (c / 64) ∷ next c ∷ [] = stays (next (c / 64)) (next c ∷ []) (high 128 (c / 64 % 64) (lit≤ tt)) last in
    let third : doubled (next (c / 4096) ∷ next (c / 64) ∷ next c ∷ []) ≡ next (c / 4096) ∷ next (c / 64) ∷ next c ∷ [] = stays (next (c / 4096)) _ (high 128 (c / 4096 % 64) (lit≤ tt)) second in
    by_width (ltb c 128) (ltb c 2048) (ltb c 65536) (c ∷ []) ((192 + c / 64) ∷ next c ∷ []) ((224 + c / 4096) ∷ next (c / 64) ∷ next c ∷ []) ((240 + c / 262144) ∷ next (c / 4096) ∷ next (c / 64) ∷ next c ∷ [])
    (stays c [] one refl) (stays _ _ (high 192 (c / 64) (lit≤ tt)) last) (stays _ _ (high 224 (c / 4096) (lit≤ tt)) second) (stays _ _ (high 240 (c / 262144) (lit≤ tt)) third)
