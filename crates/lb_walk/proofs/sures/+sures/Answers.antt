use Rattle.std.proofs.Common.{sym, ◌∙◌}
use Rattle.lb_walk.proofs.Arms.{match_sure, substr_sure}
use Rattle.lb_walk.proofs.sures.+sures.Goals as goal

pub expr_is_sure-returns-then-choices_are_sure : goal.expr_is_sure-returns-then-choices_are_sure
expr_is_sure-returns-then-choices_are_sure t c = λ C. match_sure C c.args.expr.now c.in-Match.operand c.get.result.now c.in-Match.choices c.as_slice-then-expr_is_sure.result.now c.in-Match.otherwise _ c.in-Match.is c.get.ensures c.as_slice-then-expr_is_sure.ensures (sym (c.expr_is_sure.ensures C) ∙ c.if-expr_is_sure.true) (sym (c.choices_are_sure.ensures C) ∙ c.if-choices_are_sure.true) (c.maybe_is_sure-then-choices_are_sure.ensures C)

pub expr_is_sure-returns-then-expr_is_sure-3 : goal.expr_is_sure-returns-then-expr_is_sure-3
expr_is_sure-returns-then-expr_is_sure-3 t c = λ C. substr_sure C c.args.expr.now c.in-Substr.text c.get-in-Substr.result.now c.in-Substr.from c.get-then-expr_is_sure-2.result.now c.in-Substr.length _ c.in-Substr.is c.get-in-Substr.ensures c.get-then-expr_is_sure-2.ensures (sym (c.expr_is_sure-in-Substr.ensures C) ∙ c.if-expr_is_sure-2.true) (sym (c.expr_is_sure-then-expr_is_sure-2.ensures C) ∙ c.if-expr_is_sure-3.true) (c.maybe_is_sure-then-expr_is_sure-3.ensures C)
