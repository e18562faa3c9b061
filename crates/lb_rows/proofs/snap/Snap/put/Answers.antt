use Rattle.std.proofs.Common.{◌∙◌, ap, List}
use Rattle.std.specs.Arc.{arc_value}
use Rattle.lb_rows.specs.Kept.{versions_in}
use Rattle.lb_rows.specs.Lists.{put}
use Rattle.lb_rows.specs.Stamped.{Stamped, is_stamped, rows_only, stamped_in, stamped_of}
use Rattle.lb_rows.specs.declared.snap.StampedVersion.{StampedVersion}
use Rattle.lb_rows.proofs.There.{seen_put, rows_put, seen_room}
use Rattle.lb_rows.proofs.snap.Snap.put.Goals as goal

pub put_in-requires-clause-room : goal.put_in-requires-clause-room
put_in-requires-clause-room c = seen_room (arc_value c.args.version).name c.self.inside.versions.items c.args.self.now _ c.self.view_is c.self.invariant c.requires.room

pub returns-clause-stamped : goal.returns-clause-stamped
returns-clause-stamped c =
    let stamped : StampedVersion = record { version = c.args.version; stamp = c.args.stamp } in
    ap stamped_in c.put_in.ensures.put ∙ seen_put (arc_value c.args.version).name stamped (versions_in c.self.inside.versions.items)
    ∙ ap (λ (seen : List Stamped). put (is_stamped (arc_value c.args.version).name) (stamped_of stamped) seen) c.self.view_is

pub returns-clause-rows : goal.returns-clause-rows
returns-clause-rows c =
    let stamped : StampedVersion = record { version = c.args.version; stamp = c.args.stamp } in
    ap rows_only (ap stamped_in c.put_in.ensures.put ∙ seen_put (arc_value c.args.version).name stamped (versions_in c.self.inside.versions.items)
    ∙ ap (λ (seen : List Stamped). put (is_stamped (arc_value c.args.version).name) (stamped_of stamped) seen) c.self.view_is) ∙ rows_put (arc_value c.args.version).name (stamped_of stamped) c.args.self.now
