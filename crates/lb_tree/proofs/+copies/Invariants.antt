use Rattle.std.proofs.Common.{◌≡◌, take}
use Rattle.lb_tree.proofs.+copies.Given as goal

-- the copies so far are the items so far
abbrev pub invariant-copy_query::copy_arms-loop-arm : goal.invariant-copy_query::copy_arms-loop-arm
invariant-copy_query::copy_arms-loop-arm l = l.copied ≡ take l.arm-index l.arms

abbrev pub invariant-copy_query::copy_chains-loop-chain : goal.invariant-copy_query::copy_chains-loop-chain
invariant-copy_query::copy_chains-loop-chain l = l.copied ≡ take l.chain-index l.chains

abbrev pub invariant-copy_query::copy_choices-loop-choice : goal.invariant-copy_query::copy_choices-loop-choice
invariant-copy_query::copy_choices-loop-choice l = l.copied ≡ take l.choice-index l.choices

abbrev pub invariant-copy_query::copy_conds-loop-cond : goal.invariant-copy_query::copy_conds-loop-cond
invariant-copy_query::copy_conds-loop-cond l = l.copied ≡ take l.cond-index l.conds

abbrev pub invariant-copy_query::copy_exprs-loop-expr : goal.invariant-copy_query::copy_exprs-loop-expr
invariant-copy_query::copy_exprs-loop-expr l = l.copied ≡ take l.expr-index l.exprs

abbrev pub invariant-copy_query::copy_items-loop-item : goal.invariant-copy_query::copy_items-loop-item
invariant-copy_query::copy_items-loop-item l = l.copied ≡ take l.item-index l.items

abbrev pub invariant-copy_query::copy_joins-loop-join : goal.invariant-copy_query::copy_joins-loop-join
invariant-copy_query::copy_joins-loop-join l = l.copied ≡ take l.join-index l.joins

abbrev pub invariant-copy_query::copy_signed-loop-part : goal.invariant-copy_query::copy_signed-loop-part
invariant-copy_query::copy_signed-loop-part l = l.copied ≡ take l.part-index l.parts
