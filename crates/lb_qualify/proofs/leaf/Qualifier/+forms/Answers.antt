-- The nodes with many parts.
use Rattle.std.proofs.Common.{ap, ◌∙◌, List, map}
use Rattle.lb_tree.specs.declared.query.Chain.{Chain}
use Rattle.lb_tree.specs.declared.query.Column.{Column}
use Rattle.lb_tree.specs.declared.query.Item.{Item}
use Rattle.lb_tree.specs.declared.query.Cond.TheViews.{out-Query}
use Rattle.lb_tree.specs.Folds.{chain_of}
use Rattle.lb_names.specs.declared.place.Seen.{Seen}
use Rattle.lb_names.specs.Sights.{inside}
use Rattle.lb_names.specs.Marks.{marked, mark_steps, tables_of}
use Rattle.lb_names.specs.Qualify.{with_item}
use Rattle.lb_scope.specs.Found.{catalogue}
use Rattle.lb_qualify.specs.Forms as forms
use Rattle.lb_qualify.proofs.Arms.{match_made, substr_made, query_made}
use Rattle.lb_qualify.proofs.leaf.Qualifier.+forms.Goals as goal

pub expr-returns-in_ok-otherwise-in-Match : goal.expr-returns-in_ok-otherwise-in-Match
expr-returns-in_ok-otherwise-in-Match t c =
    match_made c.args.self.now c.args.sight.now.seen c.args.expr.now c.in-Match.operand c.get.result.now c.in_ok-operand-in-Match.operand c.in-Match.choices c.as_slice-in-Match.result.now c.in_ok-choices-in-Match.choices c.in-Match.otherwise c.in_ok-otherwise-in-Match.otherwise
    c.in-Match.is c.get.ensures c.in_ok-operand-in-Match.ensures c.as_slice-in-Match.ensures c.in_ok-choices-in-Match.ensures c.in_ok-otherwise-in-Match.ensures

pub expr-returns-in_ok-length-in-Substr : goal.expr-returns-in_ok-length-in-Substr
expr-returns-in_ok-length-in-Substr t c =
    substr_made c.args.self.now c.args.sight.now.seen c.args.expr.now c.in-Substr.text c.get-in-Substr.result.now c.in_ok-text-in-Substr.text c.in-Substr.from c.get-in-Substr-2.result.now c.in_ok-from-in-Substr.from c.in-Substr.length c.in_ok-length-in-Substr.length
    c.in-Substr.is c.get-in-Substr.ensures c.in_ok-text-in-Substr.ensures c.get-in-Substr-2.ensures c.in_ok-from-in-Substr.ensures c.in_ok-length-in-Substr.ensures

pub query-returns : goal.query-returns
query-returns t c =
    query_made c.args.self.now c.args.query.now c.args.outer.now.seen c.in_ok-inner.inner.seen c.in_ok-items.items c.in_ok-from.from c.in_ok-filter.filter c.in_ok-group.group c.in_ok-having.having
    (ap (λ v. v.seen) (c.in_ok-inner.ensures ∙ ap (λ (from : List Chain). inside c.args.outer.now (tables_of (map (chain_of marked mark_steps) from))) c.as_slice.ensures))
    (c.in_ok-items.ensures ∙ ap (λ (xs : List Item). map (λ i. forms.in_item c.args.self.now i c.in_ok-inner.inner.seen) xs) c.as_slice-2.ensures)
    (c.in_ok-from.ensures ∙ ap (λ (xs : List Chain). map (λ x. forms.in_chain c.args.self.now x c.args.outer.now.seen) xs) c.as_slice-3.ensures)
    c.in_ok-filter.ensures
    (c.in_ok-group.ensures ∙ ap (λ (xs : List Column). map (with_item (catalogue c.args.self.now.catalog.now) c.seen.result.now) xs) c.as_slice-4.ensures ∙ ap (λ (seen : List Seen). map (with_item (catalogue c.args.self.now.catalog.now) seen) (out-Query c.args.query.now).group) c.seen.ensures)
    c.in_ok-having.ensures
