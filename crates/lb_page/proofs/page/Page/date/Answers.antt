use Rattle.std.proofs.Common.{◌≡◌, ℕ, ap, ◌∙◌, List, ◌++◌, ◌∷◌, [], arith, to_z-of_z, string_bytes}
use Rattle.lb_page.proofs.Pages.{piece_laid, three_behind, literal_text, date_plain, text_closes, text_opens}
use Rattle.lb_tok.specs.Dates.{date_text}
use Rattle.lb_page.proofs.page.Page.date.Goals as goal

pub returns : goal.returns
returns c =
    let h : string_bytes c.push_date.new.out ≡ string_bytes c.push_str.new.self ++ date_text c.args.day = grind (arith, to_z-of_z) in
    piece_laid c.args.self.now _ _ _ _ _ _ _ _ c.self.view_is text_closes text_opens (literal_text (date_text c.args.day) ∙ ap (λ (u : List ℕ). 39 ∷ (u ++ 39 ∷ [])) (date_plain c.args.day)) c.in_ok-push_gap.ensures
    (three_behind (string_bytes c.push_gap.new.out) (string_bytes c.push_str.new.self) (string_bytes c.push_date.new.out) (string_bytes c.push_str-2.new.self) (39 ∷ []) (date_text c.args.day) (39 ∷ []) c.in_ok-push_str.ensures.bytes h c.in_ok-push_str-2.ensures.bytes)
