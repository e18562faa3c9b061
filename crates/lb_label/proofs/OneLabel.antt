-- Two lists of parts that stand for one label are the same parts.
use Rattle.std.proofs.Common.{◌≡◌, refl, ap, sym, ◌∙◌, ℕ, zero, suc, ◌+◌, ◌<◌, ◌≤◌, ◌^◌, ⊎_elim, Bool, true, false, ◌&&◌, List, [], ◌∷◌, length, drop, get_or, eqb, subst, arith}
use Rattle.std.proofs.lemmas.Nat.Bits.{same_from_bits_below}
use Rattle.std.specs.Bool.{Decides}
use Rattle.std.specs.Int.{bit_at}
use Rattle.std.specs.List.{filter, list_any, range_with_len}
use Rattle.lb_label.proofs.Bits.{same_true, true_same}
use Rattle.lb_label.proofs.Elements.{and_true, any_in_filter, any_in_range, bit_or_not, both_true}
use Rattle.lb_label.specs.declared.kind.ComponentKind.{ComponentKind}
use Rattle.lb_label.specs.declared.kind.ComponentKind.TheVariants.{Set, Array, Tree}
use Rattle.lb_label.specs.Component.{Definition, numbers}
use Rattle.lb_label.specs.Label.{IsLabel, elements_in, fits_in, has_element, label_of}
use Rattle.lb_label.specs.Rules.{has}

abbrev chosen : (ℕ → Bool) → ℕ → List ℕ
chosen q n = filter q (numbers n)

-- what is chosen from the numbers below n: those that pass the test
has_chosen : (q : ℕ → Bool) (n e : ℕ) → e < n → q e ≡ true → has (chosen q n) e ≡ true
has_chosen q n e below passes =
    any_in_filter (λ k. eqb k e) q (numbers n)
    ∙ (any_in_range (λ k. q k && eqb k e) 0 n).1 (e, omega arith, omega arith, and_true (q e) (eqb e e) passes (true_same e e refl))

chosen_passes : (q : ℕ → Bool) (n e : ℕ) → has (chosen q n) e ≡ true → q e ≡ true
chosen_passes q n e found =
    let some : (k : ℕ) × (0 ≤ k) × (k < 0 + n) × ((q k && eqb k e) ≡ true) = (any_in_range (λ k. q k && eqb k e) 0 n).0 (sym (any_in_filter (λ k. eqb k e) q (numbers n)) ∙ found) in
    let both : (q some.0 ≡ true) × (eqb some.0 e ≡ true) = both_true (q some.0) (eqb some.0 e) some.3 in
    subst (λ k. q k ≡ true) (same_true some.0 e both.1) both.0

-- an element of the one part is one of the other
in_both : (q r : ℕ → Bool) (n e : ℕ) → chosen q n ≡ chosen r n → e < n → q e ≡ true → r e ≡ true
in_both q r n e same below passes =
    chosen_passes r n e (subst (λ xs. has xs e ≡ true) same (has_chosen q n e below passes))

same_bit : (n a b i : ℕ) → chosen (λ e. eqb (bit_at a e) 1) n ≡ chosen (λ e. eqb (bit_at b e) 1) n → i < n → bit_at a i ≡ bit_at b i
same_bit n a b i same below = ⊎_elim
    (λ (set : bit_at a i ≡ 1). set ∙ sym (over a b same set))
    (λ (clear : bit_at a i ≡ 0). ⊎_elim
    (λ (set : bit_at b i ≡ 1). over b a (sym same) set ∙ sym set)
    (λ (other : bit_at b i ≡ 0). clear ∙ sym other)
    (bit_or_not b i))
    (bit_or_not a i)
  where
    over : (x y : ℕ) → chosen (λ e. eqb (bit_at x e) 1) n ≡ chosen (λ e. eqb (bit_at y e) 1) n → bit_at x i ≡ 1 → bit_at y i ≡ 1
    over x y alike set = same_true (bit_at y i) 1 (in_both (λ e. eqb (bit_at x e) 1) (λ e. eqb (bit_at y e) 1) n i alike below (true_same (bit_at x i) 1 set))

same_place : (n a b : ℕ) → a ≤ n → b ≤ n → chosen (λ e. eqb a (e + 1)) n ≡ chosen (λ e. eqb b (e + 1)) n → a ≡ b
same_place n zero zero h k same = refl
same_place n zero (suc b) h k same =
    same_true zero (b + 1) (in_both (λ e. eqb (suc b) (e + 1)) (λ e. eqb zero (e + 1)) n b (sym same) (omega arith) (true_same (suc b) (b + 1) (omega arith))) ∙ omega arith
same_place n (suc a) b h k same =
    let is : b ≡ a + 1 = same_true b (a + 1) (in_both (λ e. eqb (suc a) (e + 1)) (λ e. eqb b (e + 1)) n a same (omega arith) (true_same (suc a) (a + 1) (omega arith))) in
    omega arith

same_part : (kind : ComponentKind) (n a b : ℕ) → fits_in kind n a → fits_in kind n b → chosen (has_element kind a) n ≡ chosen (has_element kind b) n → a ≡ b
same_part Array n a b h k same = same_place n a b h k same
same_part Set n a b h k same = same_from_bits_below n a b h k (λ i below. same_bit n a b i same below)
same_part Tree n a b h k same = same_from_bits_below n a b h k (λ i below. same_bit n a b i same below)

pub one_label : (shape : List Definition) (parts others : List ℕ) → IsLabel shape parts → IsLabel shape others → label_of shape parts ≡ label_of shape others → parts ≡ others
one_label [] [] [] h k same = refl
one_label [] [] (b ∷ others) h k same = absurd k
one_label [] (a ∷ parts) others h k same = absurd h
one_label (c ∷ shape) [] others h k same = absurd h
one_label (c ∷ shape) (a ∷ parts) [] h k same = absurd k
one_label (c ∷ shape) (a ∷ parts) (b ∷ others) h k same =
    let first : elements_in c a ≡ elements_in c b = ap (λ xs. get_or xs 0 []) same in
    let rest : label_of shape parts ≡ label_of shape others = ap (drop 1) same in
    λ i. same_part c.kind (length c.elements) a b h.0 k.0 first i ∷ one_label shape parts others h.1 k.1 rest i
