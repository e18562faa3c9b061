use Rattle.std.proofs.Common.{◌≡◌, true, get_or, sym}
use Rattle.std.specs.Str.{bytes_eq}
use Rattle.std.proofs.lemmas.List.{take_all}
use Rattle.lb_refr.proofs.Named.{bytes_same, found_version, none_held}
use Rattle.lb_refr.proofs.find.place_of_version.Goals as goal

pub returns-then-eq-clause-found : goal.returns-then-eq-clause-found
returns-then-eq-clause-found c =
    let e : bytes_eq (get_or c.args.versions.now c.loop-i.i c.index-versions-i.result).name c.args.name.now ≡ true = rw (← c.index-versions-i.is, ← c.as_str.ensures.same) (sym c.if-eq.ensures) in
    found_version c.args.name.now c.args.versions.now c.loop-i.i c.index-versions-i.result c.loop-i-test.true c.loop-i.invariant e (bytes_same _ _ e)

pub returns-clause-none : goal.returns-clause-none
returns-clause-none c = none_held c.args.name.now c.args.versions.now (rw (take_all c.loop-i.i c.args.versions.now c.loop-i-test.false) at c.loop-i.invariant)
