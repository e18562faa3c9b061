-- The expressions with three parts.
use Rattle.lb_resolve.proofs.Arms.{match_passes, substr_passes}
use Rattle.lb_resolve.proofs.mark.Walk.+names.Goals as goal

pub expr-returns-in_ok-choices-in-Match : goal.expr-returns-in_ok-choices-in-Match
expr-returns-in_ok-choices-in-Match t c =
    match_passes c.args.self.now c.args.sight.now c.maybe_expr-in-Match.result c.args.expr.now c.in-Match.operand c.get.result.now c.in-Match.choices c.as_slice-in-Match.result.now c.in-Match.otherwise
    c.in-Match.is c.get.ensures c.in_ok-expr-in-Match.ensures c.as_slice-in-Match.ensures c.in_ok-choices-in-Match.ensures c.maybe_expr-in-Match.ensures

pub expr-returns-in_ok-expr-in-Substr-2 : goal.expr-returns-in_ok-expr-in-Substr-2
expr-returns-in_ok-expr-in-Substr-2 t c =
    substr_passes c.args.self.now c.args.sight.now c.maybe_expr-in-Substr.result c.args.expr.now c.in-Substr.text c.get-in-Substr.result.now c.in-Substr.from c.get-in-Substr-2.result.now c.in-Substr.length
    c.in-Substr.is c.get-in-Substr.ensures c.in_ok-expr-in-Substr.ensures c.get-in-Substr-2.ensures c.in_ok-expr-in-Substr-2.ensures c.maybe_expr-in-Substr.ensures
