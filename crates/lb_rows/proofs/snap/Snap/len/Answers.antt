use Rattle.std.proofs.Common.{◌∙◌, sym}
use Rattle.lb_rows.proofs.There.{stamped_length}
use Rattle.lb_rows.proofs.snap.Snap.len.Goals as goal

pub returns-clause-len : goal.returns-clause-len
returns-clause-len c = c.len.ensures.value ∙ sym (stamped_length c.self.inside.versions.items c.args.self.now c.self.view_is c.self.invariant)

pub returns-clause-few : goal.returns-clause-few
returns-clause-few c = rw (stamped_length c.self.inside.versions.items c.args.self.now c.self.view_is c.self.invariant) c.is_full-room.ensures.fits
