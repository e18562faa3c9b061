use Rattle.std.proofs.Common.{ap, ◌∙◌}
use Rattle.std.specs.Arc.{arc_value}
use Rattle.lb_cat.specs.declared.catalog.UserRec.{UserRec}
use Rattle.lb_cat.specs.Stamps.{bare, bare_user}
use Rattle.lb_first.proofs.Changing.{key_added, no_key_added}
use Rattle.lb_first.proofs.users.with_user_keys.Goals as goal
use Rattle.lb_first.proofs.users.with_user_keys.Goals.{in-Some+in_ok-copy+in_ok-push, in_default}

pub loop-place-preserved : goal.loop-place-preserved
loop-place-preserved g c =
    let test = g.T.UserTest.test c.args.test.now in
    let users = (bare c.args.catalog.now).users in
    elim c.match-passing_at.branch [
      | in-Some+in_ok-copy+in_ok-push w ↦
          w.touched-is ∙ w.in_ok-push.ensures.ok
          ∙ key_added test users c.args.touched c.loop-place.touched c.loop-place.place (bare_user (arc_value w.in-Some.user.now)) _ w.in-Some.ensures.bare (w.in_ok-copy.ensures ∙ ap (λ (x : UserRec). x.name) w.deref.ensures) c.loop-place.invariant
      | in_default w ↦ w.touched-is ∙ no_key_added test users c.args.touched c.loop-place.touched c.loop-place.place w.in_default.ensures.bare c.loop-place.invariant
    ]
