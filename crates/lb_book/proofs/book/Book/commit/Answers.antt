use Rattle.std.proofs.Common.{rules, ◌≡◌, ◌-◌, ◌<◌, [], ◌∷◌, List, length, sym, ap, subst, arith, ◌∙◌}
use Rattle.std.specs.Prelude.{option_map}
use Rattle.std.specs.Arc.{arc_value}
use Rattle.std.proofs.lemmas.List.{length-append}
use Rattle.lb_cat.specs.declared.entry.Entry.{Entry}
use Rattle.lb_cat.specs.declared.entry.Entry.TheVariants as entries
use Rattle.lb_cat.specs.Stamps.{Kept}
use Rattle.lb_rows.specs.Stamped.{Stamped}
use Rattle.lb_journal.specs.Journal.{FollowsSaid}
use Rattle.lb_book.specs.Leaving.{IsWritten}
use Rattle.lb_book.proofs.Growing.{opens_same, write_room, wrote}
use Rattle.lb_book.proofs.book.Book.commit.Goals as goal

pub put-requires : goal.put-requires
put-requires g c =
    let journal : c.args.self.now.journal ≡ c.self.inside.journal.items = ap (λ s. s.journal) (sym c.self.view_is) in
    let follows : FollowsSaid c.self.inside.journal.items c.args.said = subst (λ (J : List Entry). FollowsSaid J c.args.said) journal c.requires.made in
    let catalog : c.args.self.now.catalog ≡ arc_value c.self.inside.catalog = ap (λ s. s.catalog) (sym c.self.view_is) in
    let tables : c.args.self.now.tables ≡ c.self.inside.tables = ap (λ s. s.tables) (sym c.self.view_is) in
    let written : IsWritten (arc_value c.self.inside.catalog) c.self.inside.tables c.args.said (option_map arc_value c.args.table) =
    subst (λ (K : Kept). IsWritten K c.self.inside.tables c.args.said (option_map arc_value c.args.table)) catalog
    (subst (λ (ts : List Stamped). IsWritten c.args.self.now.catalog ts c.args.said (option_map arc_value c.args.table)) tables c.requires.written) in
    write_room c.replays_are_standing.ensures c.self.inside.journal.items _ _ c.self.invariant.0.replayed c.args.said (option_map arc_value c.args.table) follows written

pub invariant_of-self : goal.invariant_of-self
invariant_of-self g c =
    let items = c.in-Ok.ensures.items in
    let spare : c.self.inside.spare ≡ c.args.self.now.spare = ap (λ s. s.spare) c.self.view_is in
    let journal : c.args.self.now.journal ≡ c.self.inside.journal.items = ap (λ s. s.journal) (sym c.self.view_is) in
    let room : 0 < c.self.inside.spare = omega (arith, c.requires.room, spare) in
    let count : c.len-place.result ≡ length c.self.inside.journal.items = search rules in
    let follows : FollowsSaid c.self.inside.journal.items c.args.said = subst (λ (J : List Entry). FollowsSaid J c.args.said) journal c.requires.made in
    let catalog : c.args.self.now.catalog ≡ arc_value c.self.inside.catalog = ap (λ s. s.catalog) (sym c.self.view_is) in
    let tables : c.args.self.now.tables ≡ c.self.inside.tables = ap (λ s. s.tables) (sym c.self.view_is) in
    let written : IsWritten (arc_value c.self.inside.catalog) c.self.inside.tables c.args.said (option_map arc_value c.args.table) =
    subst (λ (K : Kept). IsWritten K c.self.inside.tables c.args.said (option_map arc_value c.args.table)) catalog
    (subst (λ (ts : List Stamped). IsWritten c.args.self.now.catalog ts c.args.said (option_map arc_value c.args.table)) tables c.requires.written) in
    rw (items, c.put.ensures, count) (
      wrote _ _ _ c.self.invariant.0 (c.self.inside.spare - 1) room (omega arith) c.args.said (option_map arc_value c.args.table) follows written,
      omega (arith, room, c.self.invariant.1, c.in-Ok.ensures.capacity, length-append c.self.inside.journal.items (entries.Said c.args.said ∷ [])),
      sym (opens_same c.self.inside.journal.items c.args.said ∙ sym c.self.invariant.2),
    )
