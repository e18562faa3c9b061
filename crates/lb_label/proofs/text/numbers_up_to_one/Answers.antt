use Rattle.std.proofs.Common.{◌≡◌, ◌∙◌, ◌++◌, ◌∷◌, [], ◌-◌, ◌+◌, sym, ap, eqb, arith}
use Rattle.lb_label.proofs.Bits.{false_apart}
use Rattle.lb_label.proofs.RuleLemmas.{none_pass, one_passes}
use Rattle.lb_label.proofs.text.numbers_up_to_one.Goals as goal

pub returns-then-part-gt0 : goal.returns-then-part-gt0
returns-then-part-gt0 c =
    c.push.ensures.items ∙ ap (λ xs. xs ++ (c.args.part - 1) ∷ []) c.new-numbers.ensures
    ∙ sym (one_passes c.args.part 0 c.args.count (c.args.part - 1) (omega arith) (omega arith) (omega arith))

pub returns-else-part-gt0 : goal.returns-else-part-gt0
returns-else-part-gt0 c =
    c.new-numbers.ensures ∙ sym (none_pass (λ x. eqb c.args.part (x + 1)) 0 c.args.count (λ k h. false_apart c.args.part (k + 1) (λ e. omega arith)))
