use Rattle.std.proofs.Common.{◌≡◌, ◌-◌, ◌+◌, ◌<◌, [], ◌∷◌, sym, ap, arith, ◌∙◌}
use Rattle.std.proofs.lemmas.List.{length-append}
use Rattle.lb_cat.specs.declared.entry.Entry.TheVariants as entries
use Rattle.lb_book.proofs.Growing.{opened, opens_more}
use Rattle.lb_book.proofs.book.Book.open.Goals as goal

pub invariant_of-self : goal.invariant_of-self
invariant_of-self g c =
    let items = c.in-Ok.ensures.items in
    let spare : c.self.inside.spare ≡ c.args.self.now.spare = ap (λ s. s.spare) c.self.view_is in
    let room : 0 < c.self.inside.spare = omega (arith, c.requires.room, spare) in
    rw items (
      opened _ _ _ c.self.invariant.0 (c.self.inside.spare - 1) room (omega arith) c.args.user c.args.groups,
      omega (arith, room, c.self.invariant.1, c.in-Ok.ensures.capacity, length-append c.self.inside.journal.items (entries.Open c.args.user c.args.groups ∷ [])),
      sym (opens_more c.self.inside.journal.items c.args.user c.args.groups ∙ ap (λ n. n + 1) (sym c.self.invariant.2)),
    )
