use Rattle.std.proofs.Common.{sym, ◌∙◌}
use Rattle.lb_page.proofs.Pages.{piece_laid, name_text, name_closes, name_opens}
use Rattle.lb_page.proofs.page.Page.name.Goals as goal

pub returns : goal.returns
returns c =
    piece_laid c.args.self.now _ _ _ _ _ _ _ _ c.self.view_is (name_closes c.args.name.now) (name_opens c.args.name.now) (name_text c.args.name.now ∙ sym c.as_str.ensures.same) c.in_ok-push_gap.ensures c.in_ok-push_str.ensures.bytes
