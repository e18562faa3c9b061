use Rattle.std.proofs.Common.{◌≡◌, ℕ, ◌∙◌, ◌+◌, ◌/◌, ◌^◌, ◌≤◌, ◌++◌, ◌∷◌, [], true, false, cond, length, sym, ap, lit<, eqb, bit_and, arith}
use Rattle.std.proofs.lemmas.List.{append-nil}
use Rattle.std.proofs.lemmas.Nat.Bits.{shr_and_one}
use Rattle.arrayvec.specs.ArrayVec.{ArrayVec}
use Rattle.std.specs.Int.{bit_at}
use Rattle.lb_label.proofs.Bits.{true_same, false_apart}
use Rattle.lb_label.proofs.Elements.{members}
use Rattle.lb_label.proofs.TextLemmas.{few_members, members_grow}
use Rattle.lb_label.proofs.text.numbers_of_bits.Goals as goal
use Rattle.lb_label.proofs.text.numbers_of_bits.Goals.{then-part-number-eq1, else-part-number-eq1}

pub push-requires : goal.push-requires
push-requires c =
    let few : length (members c.loop-number.number c.args.part) ≤ c.loop-number.number = few_members c.loop-number.number c.args.part in
    let same : length c.loop-number.numbers.items ≡ length (members c.loop-number.number c.args.part) = ap length c.loop-number.invariant in
    (lit< tt, omega arith)

pub loop-number-preserved : goal.loop-number-preserved
loop-number-preserved c =
    elim c.if-part-number-eq1.branch [
      | then-part-number-eq1 w ↦
          let set : eqb (bit_at c.args.part c.loop-number.number) 1 ≡ true = true_same _ 1 (sym (shr_and_one c.args.part c.loop-number.number) ∙ w.if-part-number-eq1.true) in
          ap (λ (v : ArrayVec ℕ). v.items) w.numbers-is ∙ w.push.ensures.items ∙ ap (λ xs. xs ++ c.loop-number.number ∷ []) c.loop-number.invariant
          ∙ ap (λ t. members c.loop-number.number c.args.part ++ cond t (c.loop-number.number ∷ []) []) (sym set) ∙ sym (members_grow c.loop-number.number c.args.part)
      | else-part-number-eq1 w ↦
          let clear : eqb (bit_at c.args.part c.loop-number.number) 1 ≡ false = false_apart _ 1 (λ e. w.if-part-number-eq1.false (shr_and_one c.args.part c.loop-number.number ∙ e)) in
          ap (λ (v : ArrayVec ℕ). v.items) w.numbers-is ∙ c.loop-number.invariant ∙ sym (append-nil (members c.loop-number.number c.args.part))
          ∙ ap (λ t. members c.loop-number.number c.args.part ++ cond t (c.loop-number.number ∷ []) []) (sym clear) ∙ sym (members_grow c.loop-number.number c.args.part)
    ]

pub returns : goal.returns
returns c = c.loop-number.invariant ∙ ap (λ n. members n c.args.part) (omega arith)
