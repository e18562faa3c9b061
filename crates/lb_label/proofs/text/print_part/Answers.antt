use Rattle.std.proofs.Common.{◌≡◌, ◌<◌, ◌∙◌, get_or, length, ap, arith, subst, sym, All}
use Rattle.lb_label.proofs.PrintLemmas.{elements_below}
use Rattle.lb_label.proofs.text.print_part.Goals as goal

pub text-requires : goal.text-requires
text-requires c =
    subst (λ xs. All (λ e. e < length c.args.component.now.elements) xs) (sym (c.as_slice.ensures.value ∙ c.numbers_in.ensures)) (elements_below c.args.component.now c.args.part) 0 0 (omega arith)

pub print_elements-requires : goal.print_elements-requires
print_elements-requires c =
    subst (λ xs. All (λ e. e < length c.args.component.now.elements) xs) (sym (c.as_slice.ensures.value ∙ c.numbers_in.ensures)) (elements_below c.args.component.now c.args.part)
