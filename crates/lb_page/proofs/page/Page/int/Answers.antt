use Rattle.std.proofs.Common.{◌≡◌, ◌++◌, arith, to_z-of_z, string_bytes}
use Rattle.lb_page.proofs.Pages.{piece_laid, int_text, int_closes, int_opens}
use Rattle.std.specs.Fmt.{signed_decimal}
use Rattle.lb_page.proofs.page.Page.int.Goals as goal

pub returns : goal.returns
returns c =
    let h : string_bytes c.push_int.new.out ≡ string_bytes c.push_gap.new.out ++ signed_decimal c.args.n = grind (arith, to_z-of_z) in
    piece_laid c.args.self.now _ _ _ _ _ _ _ _ c.self.view_is (int_closes c.args.n) (int_opens c.args.n) (int_text c.args.n) c.in_ok-push_gap.ensures h
