use Rattle.std.proofs.Common.{ℕ, sym, ap, ◌∙◌, List, ◌++◌, ◌∷◌, [], string_bytes}
use Rattle.lb_page.proofs.Pages.{piece_laid, two_behind, opening_text, open_opens}
use Rattle.lb_page.proofs.page.Page.opening.Goals as goal

pub returns : goal.returns
returns c =
    piece_laid c.args.self.now _ _ _ _ _ _ _ _ c.self.view_is (sym c.closes.ensures) open_opens (opening_text c.args.kind ∙ ap (λ (u : List ℕ). u ++ 40 ∷ []) (sym c.spelling.ensures)) c.in_ok-push_gap.ensures
    (two_behind (string_bytes c.push_gap.new.out) (string_bytes c.push_str.new.self) (string_bytes c.push_str-2.new.self) c.spelling.result.now (40 ∷ []) c.in_ok-push_str.ensures.bytes c.in_ok-push_str-2.ensures.bytes)
