use Rattle.std.proofs.Common.{rules, ◌∙◌, ap}
use Rattle.lb_tok.specs.declared.kind.Kind.TheVariants as kinds
use Rattle.lb_tok.specs.Spacing.{lay, mark}
use Rattle.lb_tok.specs.ChangePieces.{privilege_pieces}
use Rattle.lb_page.proofs.Loops.{separated_more}
use Rattle.lb_print.proofs.grant.privileges.Goals as goal

pub loop-place-preserved : goal.loop-place-preserved
loop-place-preserved c =
    separated_more kinds.Comma privilege_pieces c.args.page.now c.loop-place.page c.separator.new.page c.mark.new.self c.args.list.now c.loop-place.place _ c.loop-place-test.true (search rules) c.loop-place.invariant (c.in_ok-separator.ensures) (c.in_ok-mark.ensures ∙ ap (λ k. lay c.separator.new.page (mark k)) c.right.ensures)
