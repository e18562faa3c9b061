use Rattle.std.proofs.Common.{◌≡◌, true, get_or, sym}
use Rattle.std.specs.Str.{bytes_eq}
use Rattle.std.proofs.lemmas.List.{take_all}
use Rattle.lb_refr.proofs.Named.{found_table, none_named}
use Rattle.lb_refr.proofs.find.place_of_table.Goals as goal

pub returns-then-eq-clause-found : goal.returns-then-eq-clause-found
returns-then-eq-clause-found c =
    let e : bytes_eq (get_or c.args.tables.now c.loop-i.i c.index-tables-i.result).name c.args.name.now ≡ true = rw (← c.index-tables-i.is, ← c.as_str.ensures.same) (sym c.if-eq.ensures) in
    found_table c.args.name.now c.args.tables.now c.loop-i.i c.index-tables-i.result c.loop-i-test.true c.loop-i.invariant e

pub returns-clause-none : goal.returns-clause-none
returns-clause-none c = none_named c.args.name.now c.args.tables.now (rw (take_all c.loop-i.i c.args.tables.now c.loop-i-test.false) at c.loop-i.invariant)
