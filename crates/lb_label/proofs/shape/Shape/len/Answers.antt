use Rattle.std.proofs.Common.{◌≡◌, ◌∙◌, sym}
use Rattle.lb_label.proofs.ShapeLemmas.{shape_length, shape_valid}
use Rattle.lb_label.proofs.shape.Shape.len.Goals as goal

pub returns-clause-len : goal.returns-clause-len
returns-clause-len c = c.len.ensures.value ∙ sym (shape_length c.self.inside.components.items c.args.self.now c.self.view_is c.self.invariant)

pub returns-clause-few : goal.returns-clause-few
returns-clause-few c = rw (shape_length c.self.inside.components.items c.args.self.now c.self.view_is c.self.invariant) c.is_full-room.ensures.fits

pub returns-clause-valid : goal.returns-clause-valid
returns-clause-valid c = shape_valid c.self.inside.components.items c.args.self.now c.self.view_is c.self.invariant
