use Rattle.std.proofs.Common.{◌≡◌, rules, w32}
use Rattle.std.proofs.lemmas.Int.{to_z-of_z}
use mir.Val.{to_z, of_z, SFits}
use Rattle.lb_book.proofs.book.Book.run.Goals as goal

pub returns : goal.returns
returns g c =
    let catalog : c.deref.result.now ≡ c.args.self.now.catalog = search rules in
    let tables : c.self.inside.tables ≡ c.args.self.now.tables = search rules in
    let small : SFits w32 c.args.said.now.day = search rules in
    let day : to_z w32 (of_z w32 c.args.said.now.day) ≡ c.args.said.now.day = to_z-of_z w32 c.args.said.now.day small in
    rw (catalog, tables, day) at c.outcome.ensures
