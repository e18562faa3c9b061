use Rattle.std.proofs.Common.{◌≡◌, ◌<◌, length, arith, sym}
use Rattle.lb_label.proofs.ShapeLemmas.{shape_length, held_at}
use Rattle.lb_label.proofs.shape.Shape.held.Goals as goal

pub bounds-as_slice-at : goal.bounds-as_slice-at
bounds-as_slice-at c = rw (c.as_slice.ensures.value, ← shape_length c.self.inside.components.items c.args.self.now c.self.view_is c.self.invariant) c.requires

pub offset_bounds-as_slice-at : goal.offset_bounds-as_slice-at
offset_bounds-as_slice-at c =
    let within : c.args.at < length c.as_slice.result.now = rw (c.as_slice.ensures.value, ← shape_length c.self.inside.components.items c.args.self.now c.self.view_is c.self.invariant) c.requires in
    omega arith

pub unreachable-requires : goal.unreachable-requires
unreachable-requires c = held_at _ _ c.args.self.now c.as_slice.ensures.value c.self.view_is c.self.invariant c.args.at c.requires _ c.index-as_slice-at.is _ c.in-None.is

pub returns-clause-component : goal.returns-clause-component
returns-clause-component c = (held_at _ _ c.args.self.now c.as_slice.ensures.value c.self.view_is c.self.invariant c.args.at c.requires _ c.index-as_slice-at.is _ c.in-Some.is).0

pub returns-clause-valid : goal.returns-clause-valid
returns-clause-valid c = (held_at _ _ c.args.self.now c.as_slice.ensures.value c.self.view_is c.self.invariant c.args.at c.requires _ c.index-as_slice-at.is _ c.in-Some.is).1
