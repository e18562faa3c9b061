use Rattle.std.proofs.Common.{ℕ, sym, ap, ◌∙◌, List, ◌++◌, ◌∷◌, [], string_bytes}
use Rattle.lb_page.proofs.Pages.{piece_laid, two_behind, all_of_text, name_closes, star_opens}
use Rattle.lb_page.proofs.page.Page.all_of.Goals as goal

pub returns : goal.returns
returns c =
    piece_laid c.args.self.now _ _ _ _ _ _ _ _ c.self.view_is (name_closes c.args.name.now) star_opens
    (all_of_text c.args.name.now ∙ ap (λ (u : List ℕ). u ++ 46 ∷ 42 ∷ []) (sym c.as_str.ensures.same))
    c.in_ok-push_gap.ensures
    (two_behind (string_bytes c.push_gap.new.out) (string_bytes c.push_str.new.self) (string_bytes c.push_str-2.new.self) c.as_str.result.now (46 ∷ 42 ∷ []) c.in_ok-push_str.ensures.bytes c.in_ok-push_str-2.ensures.bytes)
