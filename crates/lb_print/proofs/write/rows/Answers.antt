use Rattle.std.proofs.Common.{◌∙◌, ap, List}
use Rattle.lb_tree.specs.declared.query.Expr.{Expr}
use Rattle.lb_tok.specs.declared.kind.Kind.TheVariants as kinds
use Rattle.lb_tok.specs.Spacing.{laid}
use Rattle.lb_tok.specs.Canonical.{row_pieces}
use Rattle.lb_page.proofs.Loops.{separated_more}
use Rattle.lb_print.proofs.write.rows.Goals as goal

pub loop-place-preserved : goal.loop-place-preserved
loop-place-preserved c =
    separated_more kinds.Comma row_pieces c.args.page.now c.loop-place.page c.separator.new.page _ c.args.rows.now c.loop-place.place c.index-rows-place.result c.loop-place-test.true c.index-rows-place.is c.loop-place.invariant c.in_ok-separator.ensures
    (c.in_ok-row.ensures ∙ ap (λ (row : List Expr). laid c.separator.new.page (row_pieces row)) c.as_slice.ensures)
