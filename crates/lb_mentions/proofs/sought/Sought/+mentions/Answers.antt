-- The expressions with three parts.
use Rattle.std.proofs.Common.{sym, ◌∙◌}
use Rattle.lb_mentions.proofs.Arms.{match_is, substr_is}
use Rattle.lb_mentions.proofs.sought.Sought.+mentions.Goals as goal

pub expr-returns-else-choices : goal.expr-returns-else-choices
expr-returns-else-choices t c =
    match_is c.args.self.now c.maybe_expr-else-choices.result c.args.expr.now c.in-Match.operand c.get.result.now c.in-Match.choices c.as_slice-in-Match.result.now c.in-Match.otherwise
    c.in-Match.is c.get.ensures (sym c.expr.ensures ∙ c.if-expr.false) c.as_slice-in-Match.ensures (sym c.choices.ensures ∙ c.if-choices.false) c.maybe_expr-else-choices.ensures

pub expr-returns-else-expr-3 : goal.expr-returns-else-expr-3
expr-returns-else-expr-3 t c =
    substr_is c.args.self.now c.maybe_expr-else-expr-3.result c.args.expr.now c.in-Substr.text c.get-in-Substr.result.now c.in-Substr.from c.get-in-Substr-2.result.now c.in-Substr.length
    c.in-Substr.is c.get-in-Substr.ensures (sym c.expr-in-Substr.ensures ∙ c.if-expr-2.false) c.get-in-Substr-2.ensures (sym c.expr-in-Substr-2.ensures ∙ c.if-expr-3.false) c.maybe_expr-else-expr-3.ensures
