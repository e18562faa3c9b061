-- What is left decides: the parts so far were passed.
use Rattle.std.proofs.Common.{◌≡◌, [], drop}
use Rattle.lb_resolve.specs.Parts as parts
use Rattle.lb_resolve.proofs.mark.Walk.+names.Given as goal

abbrev pub invariant-exprs-loop-part : goal.invariant-exprs-loop-part
invariant-exprs-loop-part l = parts.of_all (parts.in_expr l.self) l.list l.sight ≡ parts.of_all (parts.in_expr l.self) (drop l.part-index l.list) l.sight

abbrev pub invariant-sum-loop-part : goal.invariant-sum-loop-part
invariant-sum-loop-part l = parts.of_all (parts.in_signed l.self) l.list l.sight ≡ parts.of_all (parts.in_signed l.self) (drop l.part-index l.list) l.sight

abbrev pub invariant-arms-loop-arm : goal.invariant-arms-loop-arm
invariant-arms-loop-arm l = parts.of_all (parts.in_arm l.self) l.arms l.sight ≡ parts.of_all (parts.in_arm l.self) (drop l.arm-index l.arms) l.sight

abbrev pub invariant-choices-loop-choice : goal.invariant-choices-loop-choice
invariant-choices-loop-choice l = parts.of_all (parts.in_choice l.self) l.choices l.sight ≡ parts.of_all (parts.in_choice l.self) (drop l.choice-index l.choices) l.sight

abbrev pub invariant-conds-loop-part : goal.invariant-conds-loop-part
invariant-conds-loop-part l = parts.of_all (parts.in_cond l.self) l.list l.sight ≡ parts.of_all (parts.in_cond l.self) (drop l.part-index l.list) l.sight

abbrev pub invariant-items-loop-item : goal.invariant-items-loop-item
invariant-items-loop-item l = parts.of_all (parts.in_item l.self) l.items l.sight ≡ parts.of_all (parts.in_item l.self) (drop l.item-index l.items) l.sight

abbrev pub invariant-chains-loop-chain : goal.invariant-chains-loop-chain
invariant-chains-loop-chain l = parts.in_chains l.self l.outer l.query.around [] l.chains ≡ parts.in_chains l.self l.outer l.query.around l.before (drop l.chain-index l.chains)

abbrev pub invariant-joins-loop-join : goal.invariant-joins-loop-join
invariant-joins-loop-join l = parts.in_joins l.self l.outer l.query.around l.initial.before l.initial.tabs l.joins ≡ parts.in_joins l.self l.outer l.query.around l.before l.tabs (drop l.join-index l.joins)
