use Rattle.std.proofs.Common.{◌≡◌, ◌<◌, ◌+◌, suc, sym, ap, subst, ◌∙◌, length, arith}
use Rattle.std.specs.Prelude.{unwrap_or}
use Rattle.std.specs.Arc.{arc_value}
use Rattle.lb_cat.specs.Records.{IsMarked}
use Rattle.lb_cat.proofs.Marking.{ReplacedTo, next_stands, as_long, replaced_next, replaced_all}
use Rattle.lb_cat.proofs.records.Records.marked.Goals as goal

pub set-requires-clause-there : goal.set-requires-clause-there
set-requires-clause-there g c = subst (λ n. c.loop-place.place < n) (c.len-place-end.ensures ∙ sym (as_long (IsMarked g.R.Stamped.own_key (g.R.Stamped.stamped c.args.stamp) c.args.keys.now) c.loop-place.place c.args.self.now c.loop-place.marked c.loop-place.invariant)) c.loop-place-test.true

pub set-requires-clause-name : goal.set-requires-clause-name
set-requires-clause-name g c r at =
    let same = sym c.held.ensures ∙ sym (next_stands (IsMarked g.R.Stamped.own_key (g.R.Stamped.stamped c.args.stamp) c.args.keys.now) c.loop-place.place c.args.self.now c.loop-place.marked c.loop-place.invariant) ∙ at in
    c.in_ok-rec.ensures.name ∙ ap g.R.Named.name (ap (λ o. unwrap_or o r) same)

pub loop-place-preserved : goal.loop-place-preserved
loop-place-preserved g c =
    let next : suc c.loop-place.place ≡ c.loop-place.place + 1 = omega arith in
    subst (λ n. ReplacedTo (IsMarked g.R.Stamped.own_key (g.R.Stamped.stamped c.args.stamp) c.args.keys.now) n c.args.self.now c.set.new.self) next (subst (ReplacedTo (IsMarked g.R.Stamped.own_key (g.R.Stamped.stamped c.args.stamp) c.args.keys.now) (suc c.loop-place.place) c.args.self.now) (sym c.set.ensures)
    (replaced_next (IsMarked g.R.Stamped.own_key (g.R.Stamped.stamped c.args.stamp) c.args.keys.now) c.loop-place.place c.args.self.now c.loop-place.marked (arc_value c.held.result.now) (arc_value c.in_ok-rec.rec) c.loop-place.invariant c.held.ensures
    (subst (λ ks. IsMarked g.R.Stamped.own_key (g.R.Stamped.stamped c.args.stamp) ks (arc_value c.held.result.now) (arc_value c.in_ok-rec.rec)) c.as_slice.ensures c.in_ok-rec.ensures.marked)))

pub returns : goal.returns
returns g c =
    let all : c.loop-place.place ≡ length c.args.self.now = omega (arith, c.loop-place.auto.place-end, c.loop-place-test.false, c.len-place-end.ensures) in
    replaced_all (IsMarked g.R.Stamped.own_key (g.R.Stamped.stamped c.args.stamp) c.args.keys.now) c.args.self.now c.loop-place.marked (subst (λ n. ReplacedTo (IsMarked g.R.Stamped.own_key (g.R.Stamped.stamped c.args.stamp) c.args.keys.now) n c.args.self.now c.loop-place.marked) all c.loop-place.invariant)
