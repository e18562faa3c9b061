use Rattle.std.proofs.Common.{◌≡◌, ◌&&◌, drop, map}
use Rattle.std.specs.List.{list_all}
use Rattle.lb_names.specs.Scopes.{Catalogue}
use Rattle.lb_names.specs.Expressions.{is_sure}
use Rattle.lb_names.specs.Typing.{means, says}
use Rattle.lb_walk.specs.Opened.{arm_of, choice_of}
use Rattle.lb_walk.proofs.sures.+sures.Given as goal

abbrev pub invariant-exprs_are_sure-loop-expr : goal.invariant-exprs_are_sure-loop-expr
invariant-exprs_are_sure-loop-expr l = (C : Catalogue) → list_all is_sure (map (means C) l.exprs) ≡ list_all is_sure (map (means C) (drop l.expr-index l.exprs))

abbrev pub invariant-arms_are_sure-loop-arm : goal.invariant-arms_are_sure-loop-arm
invariant-arms_are_sure-loop-arm l = (C : Catalogue) → list_all (λ arm. arm.when.sure && arm.result.sure) (map (arm_of C) l.arms) ≡ list_all (λ arm. arm.when.sure && arm.result.sure) (map (arm_of C) (drop l.arm-index l.arms))

abbrev pub invariant-choices_are_sure-loop-choice : goal.invariant-choices_are_sure-loop-choice
invariant-choices_are_sure-loop-choice l = (C : Catalogue) → list_all (λ c. c.when.sure && c.result.sure) (map (choice_of C) l.choices) ≡ list_all (λ c. c.when.sure && c.result.sure) (map (choice_of C) (drop l.choice-index l.choices))

abbrev pub invariant-conds_are_sure-loop-cond : goal.invariant-conds_are_sure-loop-cond
invariant-conds_are_sure-loop-cond l = (C : Catalogue) → list_all (λ c. c.sure) (map (says C) l.conds) ≡ list_all (λ c. c.sure) (map (says C) (drop l.cond-index l.conds))
