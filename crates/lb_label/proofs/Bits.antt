-- One bit of a number: setting it, testing it, and what stays. Parts of SET and TREE components are bits.
use Rattle.std.proofs.Common.{◌≡◌, refl, ap, sym, ◌∙◌, ℕ, ◌+◌, ◌*◌, ◌/◌, ◌^◌, ◌%◌, ◌<◌, ◌≤◌, ◌≢◌, ◌⊎◌, ⊎_elim, Bool, true, false, cond, ◌||◌, ◌&&◌, eqb, arith, bit_or, bit_and, max, min, subst}
use Rattle.std.proofs.Math.Bool.{or-false}
use Rattle.std.proofs.Math.Nat.{mod-eq_of_lt}
use Rattle.std.proofs.Math.Pow.{pow-lt}
use Rattle.std.proofs.lemmas.Bool.{cases_eq}
use Rattle.std.proofs.lemmas.Bool.Decides.{Decides-eqb}
use Rattle.std.proofs.lemmas.Nat.Bits.{bit_at-lt, bit_at-pow_same, bit_at-pow_other, bit_at_or, shr_and_one}
use Rattle.std.specs.Int.{bit_at}

pub same_true : (a b : ℕ) → eqb a b ≡ true → a ≡ b
same_true a b = (Decides-eqb a b).0

pub true_same : (a b : ℕ) → a ≡ b → eqb a b ≡ true
true_same a b = (Decides-eqb a b).1

pub false_apart : (a b : ℕ) → a ≢ b → eqb a b ≡ false
false_apart a b apart =
    elim (eqb a b) as (λ t. eqb a b ≡ t → t ≡ false) [
      | true ↦ λ same. absurd (apart (same_true a b same))
      | false ↦ λ _. refl
    ] refl

-- `1 << k`
pub shifted_one : (k : ℕ) → k < 64 → 1 * 2 ^ k % 2 ^ 64 ≡ 2 ^ k
shifted_one k h =
    let small : 2 ^ k < 2 ^ 64 = pow-lt h in
    let fits : 1 * 2 ^ k < 2 ^ 64 = omega arith in
    mod-eq_of_lt fits ∙ omega arith

pub bit_of_one : (k i : ℕ) → bit_at (2 ^ k) i ≡ cond (eqb k i) 1 0
bit_of_one k i = ⊎_elim
    (λ (same : k ≡ i). let t : eqb k i ≡ true = true_same k i same in rw t (subst (λ j. bit_at (2 ^ k) j ≡ 1) same (bit_at-pow_same k)))
    (λ (apart : k ≢ i). let t : eqb k i ≡ false = false_apart k i apart in rw t (bit_at-pow_other k i (λ e. apart (sym e))))
    (cases_eq k i)

max_of_bits : (a b : Bool) → max (cond a 1 0) (cond b 1 0) ≡ cond (b || a) 1 0
max_of_bits true true = refl
max_of_bits true false = refl
max_of_bits false true = refl
max_of_bits false false = refl

min_of_bits : (a b : Bool) → min (cond a 1 0) (cond b 1 0) ≡ cond (a && b) 1 0
min_of_bits true true = refl
min_of_bits true false = refl
min_of_bits false true = refl
min_of_bits false false = refl

-- `line | 1 << k`
pub bit_of_or_one : (line k i : ℕ) (t : Bool) → k < 64 → bit_at line i ≡ cond t 1 0 → bit_at (bit_or line (1 * 2 ^ k % 2 ^ 64)) i ≡ cond (eqb k i || t) 1 0
bit_of_or_one line k i t h is =
    let one : 1 * 2 ^ k % 2 ^ 64 ≡ 2 ^ k = shifted_one k h in
    rw one (bit_at_or line (2 ^ k) i ∙ (rw (is, bit_of_one k i) (max_of_bits t (eqb k i))))

pub bit_of_shifted_one : (k i : ℕ) → k < 64 → bit_at (1 * 2 ^ k % 2 ^ 64) i ≡ cond (eqb k i || false) 1 0
bit_of_shifted_one k i h =
    let one : 1 * 2 ^ k % 2 ^ 64 ≡ 2 ^ k = shifted_one k h in
    rw one (bit_of_one k i ∙ ap (λ t. cond t 1 0) (sym (or-false (eqb k i))))

-- `line >> b & 1 == 1`, where the bit b of line is set for a and where t holds
pub test_of_line : (line a b : ℕ) (t : Bool) → bit_at line b ≡ cond (eqb a b || t) 1 0 → a ≢ b → eqb (bit_and (line / 2 ^ b) 1) 1 ≡ t
test_of_line line a b t is apart =
    let other : eqb a b ≡ false = false_apart a b apart in
    let bit : bit_at line b ≡ cond t 1 0 = is ∙ rw other refl in
    rw (shr_and_one line b, bit) (of_bit t)
  where
    of_bit : (u : Bool) → eqb (cond u 1 0) 1 ≡ u
    of_bit true = refl
    of_bit false = refl
