-- What is printed so far.
use Rattle.std.proofs.Common.{◌≡◌, take, map}
use Rattle.std.specs.List.{flat_map}
use Rattle.lb_tok.specs.Spacing.{laid}
use Rattle.lb_tok.specs.QueryPieces.{listed, separated, at_least, sum_pieces, signed_part, expr_phrase, expr_pieces, cond_phrase, arm_pieces, choice_pieces, item_pieces, chain_pieces, join_pieces}
use Rattle.lb_page.proofs.+prints.Given as goal

abbrev pub invariant-expression::operands-loop-place : goal.invariant-expression::operands-loop-place
invariant-expression::operands-loop-place l = l.page ≡ laid l.initial.page (separated l.kind (map (λ x. at_least l.rank (expr_phrase x)) (take l.place l.parts)))

abbrev pub invariant-expression::exprs-loop-place : goal.invariant-expression::exprs-loop-place
invariant-expression::exprs-loop-place l = l.page ≡ laid l.initial.page (listed (map expr_pieces (take l.place l.parts)))

abbrev pub invariant-expression::sum-loop-place : goal.invariant-expression::sum-loop-place
invariant-expression::sum-loop-place l = l.page ≡ laid l.initial.page (sum_pieces (map signed_part (take l.place l.parts)))

abbrev pub invariant-expression::arms-loop-arm : goal.invariant-expression::arms-loop-arm
invariant-expression::arms-loop-arm l = l.page ≡ laid l.initial.page (flat_map arm_pieces (take l.arm-index l.arms))

abbrev pub invariant-expression::choices-loop-choice : goal.invariant-expression::choices-loop-choice
invariant-expression::choices-loop-choice l = l.page ≡ laid l.initial.page (flat_map choice_pieces (take l.choice-index l.choices))

abbrev pub invariant-condition::operands-loop-place : goal.invariant-condition::operands-loop-place
invariant-condition::operands-loop-place l = l.page ≡ laid l.initial.page (separated l.kind (map (λ x. at_least l.rank (cond_phrase x)) (take l.place l.parts)))

abbrev pub invariant-query::items-loop-place : goal.invariant-query::items-loop-place
invariant-query::items-loop-place l = l.page ≡ laid l.initial.page (listed (map item_pieces (take l.place l.items)))

abbrev pub invariant-query::chains-loop-place : goal.invariant-query::chains-loop-place
invariant-query::chains-loop-place l = l.page ≡ laid l.initial.page (listed (map chain_pieces (take l.place l.chains)))

abbrev pub invariant-query::joins-loop-part : goal.invariant-query::joins-loop-part
invariant-query::joins-loop-part l = l.page ≡ laid l.initial.page (flat_map join_pieces (take l.part-index l.joins))
