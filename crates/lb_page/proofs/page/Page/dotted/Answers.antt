use Rattle.std.proofs.Common.{ℕ, sym, ap, ◌∙◌, List, ◌++◌, ◌∷◌, [], string_bytes}
use Rattle.lb_page.proofs.Pages.{piece_laid, three_behind, dotted_text, name_closes, name_opens}
use Rattle.lb_page.proofs.page.Page.dotted.Goals as goal

pub returns : goal.returns
returns c =
    piece_laid c.args.self.now _ _ _ _ _ _ _ _ c.self.view_is (name_closes c.args.of.now) (name_opens c.args.name.now)
    (dotted_text c.args.of.now c.args.name.now ∙ ap (λ (u : List ℕ). u ++ 46 ∷ c.args.name.now) (sym c.as_str.ensures.same) ∙ ap (λ (u : List ℕ). c.as_str.result.now ++ 46 ∷ u) (sym c.as_str-2.ensures.same))
    c.in_ok-push_gap.ensures
    (three_behind (string_bytes c.push_gap.new.out) (string_bytes c.push_str.new.self) (string_bytes c.push_str-2.new.self) (string_bytes c.push_str-3.new.self) c.as_str.result.now (46 ∷ []) c.as_str-2.result.now
    c.in_ok-push_str.ensures.bytes c.in_ok-push_str-2.ensures.bytes c.in_ok-push_str-3.ensures.bytes)
