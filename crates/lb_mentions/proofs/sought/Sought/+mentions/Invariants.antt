-- The parts so far have none: what is left decides.
use Rattle.std.proofs.Common.{◌≡◌, drop}
use Rattle.std.specs.List.{list_any}
use Rattle.lb_mentions.specs.Parts as parts
use Rattle.lb_mentions.proofs.sought.Sought.+mentions.Given as goal

abbrev pub invariant-exprs-loop-part : goal.invariant-exprs-loop-part
invariant-exprs-loop-part l = list_any (parts.in_expr l.self) l.list ≡ list_any (parts.in_expr l.self) (drop l.part-index l.list)

abbrev pub invariant-sum-loop-part : goal.invariant-sum-loop-part
invariant-sum-loop-part l = list_any (parts.in_signed l.self) l.list ≡ list_any (parts.in_signed l.self) (drop l.part-index l.list)

abbrev pub invariant-arms-loop-arm : goal.invariant-arms-loop-arm
invariant-arms-loop-arm l = list_any (parts.in_arm l.self) l.arms ≡ list_any (parts.in_arm l.self) (drop l.arm-index l.arms)

abbrev pub invariant-choices-loop-choice : goal.invariant-choices-loop-choice
invariant-choices-loop-choice l = list_any (parts.in_choice l.self) l.choices ≡ list_any (parts.in_choice l.self) (drop l.choice-index l.choices)

abbrev pub invariant-conds-loop-part : goal.invariant-conds-loop-part
invariant-conds-loop-part l = list_any (parts.in_cond l.self) l.list ≡ list_any (parts.in_cond l.self) (drop l.part-index l.list)

abbrev pub invariant-items-loop-item : goal.invariant-items-loop-item
invariant-items-loop-item l = list_any (parts.in_item l.self) l.items ≡ list_any (parts.in_item l.self) (drop l.item-index l.items)

abbrev pub invariant-chains-loop-chain : goal.invariant-chains-loop-chain
invariant-chains-loop-chain l = list_any (parts.in_chain l.self) l.chains ≡ list_any (parts.in_chain l.self) (drop l.chain-index l.chains)

abbrev pub invariant-joins-loop-join : goal.invariant-joins-loop-join
invariant-joins-loop-join l = list_any (parts.in_join l.self) l.joins ≡ list_any (parts.in_join l.self) (drop l.join-index l.joins)
