use Rattle.std.proofs.Common.{◌≡◌, ◌-◌, ◌<◌, [], ◌∷◌, List, sym, ap, subst, arith, ◌∙◌}
use Rattle.std.proofs.lemmas.List.{length-append}
use Rattle.lb_cat.specs.declared.entry.Entry.{Entry}
use Rattle.lb_cat.specs.declared.entry.Entry.TheVariants as entries
use Rattle.lb_journal.specs.Journal.{FollowsSaid}
use Rattle.lb_book.proofs.Growing.{asked, opens_same}
use Rattle.lb_book.proofs.book.Book.enter.Goals as goal

pub invariant_of-self : goal.invariant_of-self
invariant_of-self g c =
    let items = c.in-Ok.ensures.items in
    let spare : c.self.inside.spare ≡ c.args.self.now.spare = ap (λ s. s.spare) c.self.view_is in
    let journal : c.args.self.now.journal ≡ c.self.inside.journal.items = ap (λ s. s.journal) (sym c.self.view_is) in
    let room : 0 < c.self.inside.spare = omega (arith, c.requires.room, spare) in
    rw items (
      asked _ _ _ c.self.invariant.0 (c.self.inside.spare - 1) room (omega arith) c.args.said (subst (λ (J : List Entry). FollowsSaid J c.args.said) journal c.requires.made) c.requires.query,
      omega (arith, room, c.self.invariant.1, c.in-Ok.ensures.capacity, length-append c.self.inside.journal.items (entries.Said c.args.said ∷ [])),
      sym (opens_same c.self.inside.journal.items c.args.said ∙ sym c.self.invariant.2),
    )
