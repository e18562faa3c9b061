use Rattle.std.proofs.Common.{sym, ◌∙◌}
use Rattle.lb_walk.proofs.Arms.{match_total, substr_total}
use Rattle.lb_walk.proofs.totals.+totals.Goals as goal

pub expr_has_total-returns-else-choices_have_total : goal.expr_has_total-returns-else-choices_have_total
expr_has_total-returns-else-choices_have_total t c = λ C. match_total C c.args.expr.now c.in-Match.operand c.get.result.now c.in-Match.choices c.as_slice-in-Match.result.now c.in-Match.otherwise _ c.in-Match.is c.get.ensures c.as_slice-in-Match.ensures (sym (c.expr_has_total.ensures C) ∙ c.if-expr_has_total.false) (sym (c.choices_have_total.ensures C) ∙ c.if-choices_have_total.false) (c.maybe_has_total-else-choices_have_total.ensures C)

pub expr_has_total-returns-else-expr_has_total-3 : goal.expr_has_total-returns-else-expr_has_total-3
expr_has_total-returns-else-expr_has_total-3 t c = λ C. substr_total C c.args.expr.now c.in-Substr.text c.get-in-Substr.result.now c.in-Substr.from c.get-in-Substr-2.result.now c.in-Substr.length _ c.in-Substr.is c.get-in-Substr.ensures c.get-in-Substr-2.ensures (sym (c.expr_has_total-in-Substr.ensures C) ∙ c.if-expr_has_total-2.false) (sym (c.expr_has_total-in-Substr-2.ensures C) ∙ c.if-expr_has_total-3.false) (c.maybe_has_total-else-expr_has_total-3.ensures C)
