use Rattle.std.proofs.Common.{sym, ap, ◌∙◌}
use Rattle.lb_page.proofs.Pages.{piece_laid, literal_text, text_closes, text_opens}
use Rattle.lb_tok.specs.Spacing.{quoted}
use Rattle.lb_page.proofs.page.Page.literal.Goals as goal

pub returns : goal.returns
returns c =
    piece_laid c.args.self.now _ _ _ _ _ _ _ _ c.self.view_is text_closes text_opens (literal_text c.args.text.now ∙ ap quoted (sym c.as_str.ensures)) c.in_ok-push_gap.ensures c.in_ok-push_quoted.ensures
