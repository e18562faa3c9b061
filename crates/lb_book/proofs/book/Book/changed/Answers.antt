use Rattle.std.proofs.Common.{rules, refl, ap, ◌≡◌, ◌∙◌, ◌+◌, ℕ, length}
use Rattle.lb_cat.specs.Stamps.{marked_stamp}
use Rattle.lb_book.proofs.Growing.{change_told}
use Rattle.lb_book.proofs.book.Book.changed.Goals as goal

pub returns : goal.returns
returns g c =
    let m = c.in_ok-changed.changed in
    let count : c.len.result ≡ length c.args.self.now.journal = search rules in
    change_told c.args.self.now.catalog c.args.self.now.tables c.args.said.now c.args.stmt.now (length c.args.self.now.journal) m _ c.requires.kind c.in_ok-changed.ensures c.in_ok-mark.ensures.bare
    (λ k. c.in_ok-mark.ensures.stamps k ∙ ap (λ (n : ℕ). marked_stamp m.touched (n + 1) m.catalog k) count) refl refl refl
