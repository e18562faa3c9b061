-- Each loop prints one part more.
use Rattle.std.proofs.Common.{◌≡◌, ◌∙◌, ap, subst, OnOk, List}
use Rattle.std.specs.List.{flat_map}
use Rattle.lb_tree.specs.declared.query.Arm.{Arm}
use Rattle.lb_tree.specs.declared.query.Choice.{Choice}
use Rattle.lb_tree.specs.declared.query.Expr.{Expr}
use Rattle.lb_tok.specs.declared.kind.Kind.TheVariants as kinds
use Rattle.lb_tok.specs.Spacing.{Layout, lay, laid, mark}
use Rattle.lb_tok.specs.QueryPieces.{at_least, expr_phrase, expr_pieces, cond_phrase, arm_pieces, choice_pieces, item_pieces, chain_pieces, join_pieces}
use Rattle.lb_page.proofs.Loops.{separated_more, flat_more, sum_more}
use Rattle.lb_page.proofs.Nodes.{case_laid, match_laid, substr_laid}
use Rattle.lb_page.proofs.+prints.Goals as goal

pub expression::operands-loop-place-preserved : goal.expression::operands-loop-place-preserved
expression::operands-loop-place-preserved t c =
    separated_more c.args.kind (λ x. at_least c.args.rank (expr_phrase x)) c.args.page.now c.loop-place.page c.separator.new.page _ c.args.parts.now c.loop-place.place c.index-parts-place.result c.loop-place-test.true c.index-parts-place.is c.loop-place.invariant c.in_ok-separator.ensures c.in_ok-operand.ensures

pub expression::exprs-loop-place-preserved : goal.expression::exprs-loop-place-preserved
expression::exprs-loop-place-preserved t c =
    separated_more kinds.Comma expr_pieces c.args.page.now c.loop-place.page c.separator.new.page _ c.args.parts.now c.loop-place.place c.index-parts-place.result c.loop-place-test.true c.index-parts-place.is c.loop-place.invariant c.in_ok-separator.ensures c.in_ok-expr.ensures

pub expression::sum-loop-place-preserved : goal.expression::sum-loop-place-preserved
expression::sum-loop-place-preserved t c =
    sum_more c.args.page.now c.loop-place.page c.sign_before.new.page _ c.args.parts.now c.loop-place.place c.index-parts-place.result c.loop-place-test.true c.index-parts-place.is c.loop-place.invariant c.in_ok-sign_before.ensures c.in_ok-operand.ensures

pub expression::arms-loop-arm-preserved : goal.expression::arms-loop-arm-preserved
expression::arms-loop-arm-preserved t c =
    flat_more arm_pieces c.args.page.now c.loop-arm.page _ c.args.arms.now c.loop-arm.arm-index c.arm-item.result c.loop-arm-test.true c.arm-item.is c.loop-arm.invariant c.in_ok-arm.ensures

pub expression::choices-loop-choice-preserved : goal.expression::choices-loop-choice-preserved
expression::choices-loop-choice-preserved t c =
    flat_more choice_pieces c.args.page.now c.loop-choice.page _ c.args.choices.now c.loop-choice.choice-index c.choice-item.result c.loop-choice-test.true c.choice-item.is c.loop-choice.invariant c.in_ok-choice.ensures

pub condition::operands-loop-place-preserved : goal.condition::operands-loop-place-preserved
condition::operands-loop-place-preserved t c =
    separated_more c.args.kind (λ x. at_least c.args.rank (cond_phrase x)) c.args.page.now c.loop-place.page c.separator.new.page _ c.args.parts.now c.loop-place.place c.index-parts-place.result c.loop-place-test.true c.index-parts-place.is c.loop-place.invariant c.in_ok-separator.ensures c.in_ok-operand.ensures

pub query::items-loop-place-preserved : goal.query::items-loop-place-preserved
query::items-loop-place-preserved t c =
    separated_more kinds.Comma item_pieces c.args.page.now c.loop-place.page c.separator.new.page _ c.args.items.now c.loop-place.place c.index-items-place.result c.loop-place-test.true c.index-items-place.is c.loop-place.invariant c.in_ok-separator.ensures c.in_ok-item.ensures

pub query::chains-loop-place-preserved : goal.query::chains-loop-place-preserved
query::chains-loop-place-preserved t c =
    separated_more kinds.Comma chain_pieces c.args.page.now c.loop-place.page c.separator.new.page _ c.args.chains.now c.loop-place.place c.index-chains-place.result c.loop-place-test.true c.index-chains-place.is c.loop-place.invariant c.in_ok-separator.ensures c.in_ok-chain.ensures

pub query::joins-loop-part-preserved : goal.query::joins-loop-part-preserved
query::joins-loop-part-preserved t c =
    flat_more join_pieces c.args.page.now c.loop-part.page _ c.args.joins.now c.loop-part.part-index c.part-item.result c.loop-part-test.true c.part-item.is c.loop-part.invariant c.in_ok-join.ensures

pub expression::expr-returns-in_ok-else_part-in-Case : goal.expression::expr-returns-in_ok-else_part-in-Case
expression::expr-returns-in_ok-else_part-in-Case t c =
    let done : lay c.else_part.new.page (mark kinds.End) ≡ laid c.args.page.now (expr_pieces c.args.expr.now) =
    case_laid c.args.page.now c.mark.new.self c.arms.new.page c.else_part.new.page c.args.expr.now c.in-Case.list c.in-Case.otherwise c.in-Case.is c.in_ok-mark-in-Case.ensures
    (c.in_ok-arms-in-Case.ensures ∙ ap (λ (arms : List Arm). laid c.mark.new.self (flat_map arm_pieces arms)) c.as_slice-in-Case.ensures) c.in_ok-else_part-in-Case.ensures in
    subst (λ (l : Layout). OnOk c.mark-in-Case.result (c.mark-in-Case.new.self ≡ l)) done c.mark-in-Case.ensures

pub expression::expr-returns-in_ok-else_part-in-Match : goal.expression::expr-returns-in_ok-else_part-in-Match
expression::expr-returns-in_ok-else_part-in-Match t c =
    let done : lay c.else_part-in-Match.new.page (mark kinds.End) ≡ laid c.args.page.now (expr_pieces c.args.expr.now) =
    match_laid c.args.page.now c.mark-in-Match.new.self c.expr.new.page c.choices.new.page c.else_part-in-Match.new.page c.args.expr.now c.in-Match.operand c.in-Match.list c.in-Match.otherwise c.in-Match.is c.in_ok-mark-in-Match.ensures
    (c.in_ok-expr-in-Match.ensures ∙ ap (λ (x : Expr). laid c.mark-in-Match.new.self (expr_pieces x)) c.get.ensures)
    (c.in_ok-choices-in-Match.ensures ∙ ap (λ (choices : List Choice). laid c.expr.new.page (flat_map choice_pieces choices)) c.as_slice-in-Match.ensures) c.in_ok-else_part-in-Match.ensures in
    subst (λ (l : Layout). OnOk c.mark-in-Match-2.result (c.mark-in-Match-2.new.self ≡ l)) done c.mark-in-Match-2.ensures

pub expression::expr-returns-in_ok-last_part-in-Substr : goal.expression::expr-returns-in_ok-last_part-in-Substr
expression::expr-returns-in_ok-last_part-in-Substr t c =
    let done : lay c.last_part.new.page (mark kinds.Close) ≡ laid c.args.page.now (expr_pieces c.args.expr.now) =
    substr_laid c.args.page.now c.opening.new.self c.expr-in-Substr.new.page c.mark-in-Substr.new.self c.expr-in-Substr-2.new.page c.last_part.new.page c.args.expr.now c.in-Substr.text c.in-Substr.from c.in-Substr.length c.in-Substr.is c.in_ok-opening-in-Substr.ensures
    (c.in_ok-expr-in-Substr.ensures ∙ ap (λ (x : Expr). laid c.opening.new.self (expr_pieces x)) c.get-in-Substr.ensures) c.in_ok-mark-in-Substr.ensures
    (c.in_ok-expr-in-Substr-2.ensures ∙ ap (λ (x : Expr). laid c.mark-in-Substr.new.self (expr_pieces x)) c.get-in-Substr-2.ensures) c.in_ok-last_part-in-Substr.ensures in
    subst (λ (l : Layout). OnOk c.mark-in-Substr-2.result (c.mark-in-Substr-2.new.self ≡ l)) done c.mark-in-Substr-2.ensures
