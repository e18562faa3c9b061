use Rattle.std.proofs.Common.{sym, ◌∙◌}
use Rattle.lb_tok.proofs.Layouts.{mark_text}
use Rattle.lb_page.proofs.Pages.{piece_laid}
use Rattle.lb_page.proofs.page.Page.mark.Goals as goal

pub returns : goal.returns
returns c =
    piece_laid c.args.self.now _ _ _ _ _ _ _ _ c.self.view_is (sym c.closes.ensures) (sym c.opens-self-inside.ensures) (mark_text c.args.kind ∙ sym c.spelling.ensures) c.in_ok-push_gap.ensures c.in_ok-push_str.ensures.bytes
