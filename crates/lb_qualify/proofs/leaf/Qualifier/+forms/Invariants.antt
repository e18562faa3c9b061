-- The forms so far are those of the parts so far.
use Rattle.std.proofs.Common.{◌≡◌, ◌++◌, take, drop, map}
use Rattle.lb_qualify.specs.Forms as forms
use Rattle.lb_qualify.proofs.leaf.Qualifier.+forms.Given as goal

abbrev pub invariant-exprs-loop-expr : goal.invariant-exprs-loop-expr
invariant-exprs-loop-expr l = l.made ≡ map (λ x. forms.in_expr l.self x l.sight.seen) (take l.expr-index l.exprs)

abbrev pub invariant-sum-loop-part : goal.invariant-sum-loop-part
invariant-sum-loop-part l = l.made ≡ map (λ x. forms.in_signed l.self x l.sight.seen) (take l.part-index l.parts)

abbrev pub invariant-arms-loop-arm : goal.invariant-arms-loop-arm
invariant-arms-loop-arm l = l.made ≡ map (λ x. forms.in_arm l.self x l.sight.seen) (take l.arm-index l.arms)

abbrev pub invariant-choices-loop-choice : goal.invariant-choices-loop-choice
invariant-choices-loop-choice l = l.made ≡ map (λ x. forms.in_choice l.self x l.sight.seen) (take l.choice-index l.choices)

abbrev pub invariant-conds-loop-cond : goal.invariant-conds-loop-cond
invariant-conds-loop-cond l = l.made ≡ map (λ x. forms.in_cond l.self x l.sight.seen) (take l.cond-index l.conds)

abbrev pub invariant-items-loop-item : goal.invariant-items-loop-item
invariant-items-loop-item l = l.made ≡ map (λ x. forms.in_item l.self x l.sight.seen) (take l.item-index l.items)

abbrev pub invariant-chains-loop-chain : goal.invariant-chains-loop-chain
invariant-chains-loop-chain l = l.made ≡ map (λ x. forms.in_chain l.self x l.outer.seen) (take l.chain-index l.chains)

abbrev pub invariant-joins-loop-join : goal.invariant-joins-loop-join
invariant-joins-loop-join l = forms.in_joins l.self l.initial.tabs l.joins l.outer.seen ≡ l.made ++ forms.in_joins l.self l.tabs (drop l.join-index l.joins) l.outer.seen
