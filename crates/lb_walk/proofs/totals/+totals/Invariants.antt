use Rattle.std.proofs.Common.{◌≡◌, ◌||◌, drop, map}
use Rattle.std.specs.List.{list_any}
use Rattle.lb_names.specs.Scopes.{Catalogue}
use Rattle.lb_names.specs.Expressions.{is_total}
use Rattle.lb_names.specs.Typing.{means, says}
use Rattle.lb_walk.specs.Opened.{arm_of, choice_of, part_of}
use Rattle.lb_walk.proofs.totals.+totals.Given as goal

abbrev pub invariant-exprs_have_total-loop-expr : goal.invariant-exprs_have_total-loop-expr
invariant-exprs_have_total-loop-expr l = (C : Catalogue) → list_any is_total (map (means C) l.exprs) ≡ list_any is_total (map (means C) (drop l.expr-index l.exprs))

abbrev pub invariant-parts_have_total-loop-part : goal.invariant-parts_have_total-loop-part
invariant-parts_have_total-loop-part l = (C : Catalogue) → list_any is_total (map (part_of C) l.parts) ≡ list_any is_total (map (part_of C) (drop l.part-index l.parts))

abbrev pub invariant-arms_have_total-loop-arm : goal.invariant-arms_have_total-loop-arm
invariant-arms_have_total-loop-arm l = (C : Catalogue) → list_any (λ arm. arm.when.total || arm.result.total) (map (arm_of C) l.arms) ≡ list_any (λ arm. arm.when.total || arm.result.total) (map (arm_of C) (drop l.arm-index l.arms))

abbrev pub invariant-choices_have_total-loop-choice : goal.invariant-choices_have_total-loop-choice
invariant-choices_have_total-loop-choice l = (C : Catalogue) → list_any (λ c. c.when.total || c.result.total) (map (choice_of C) l.choices) ≡ list_any (λ c. c.when.total || c.result.total) (map (choice_of C) (drop l.choice-index l.choices))

abbrev pub invariant-conds_have_total-loop-cond : goal.invariant-conds_have_total-loop-cond
invariant-conds_have_total-loop-cond l = (C : Catalogue) → list_any (λ c. c.total) (map (says C) l.conds) ≡ list_any (λ c. c.total) (map (says C) (drop l.cond-index l.conds))
