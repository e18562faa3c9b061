use Rattle.std.proofs.Common.{◌≡◌, ℕ, ap, sym, ◌∙◌, true, false, List}
use Rattle.std.specs.Arc.{arc_value}
use Rattle.lb_cat.specs.declared.catalog.UserRec.{UserRec}
use Rattle.lb_cat.specs.Catalog.{User, is_among}
use Rattle.lb_cat.specs.Stamps.{bare, bare_user}
use Rattle.lb_alter.specs.ChangeGrant.{has_role_of}
use Rattle.lb_grant.proofs.Holders.{at_place, behind, none_here}
use Rattle.lb_grant.proofs.role.first_with_role.Goals as goal
use Rattle.lb_grant.proofs.role.first_with_role.Goals.{in-Some+else-is_among, in-None}

pub returns-then-is_among : goal.returns-then-is_among
returns-then-is_among c =
    let user : User = bare_user (arc_value c.in-Some.user.now) in
    let has : has_role_of c.args.role.now user ≡ true =
    ap (λ (u : UserRec). is_among u.roles c.args.role.now) (sym c.deref.ensures) ∙ ap (λ (ns : List (List ℕ)). is_among ns c.args.role.now) (sym c.as_slice.ensures) ∙ sym c.is_among.ensures ∙ c.if-is_among.true in
    at_place (has_role_of c.args.role.now) (bare c.args.catalog.now).users c.loop-place.place user c.in-Some.ensures.bare c.loop-place.invariant has

pub loop-place-preserved : goal.loop-place-preserved
loop-place-preserved c =
    elim c.match-user_at.branch [
      | in-Some+else-is_among w ↦
          let user : User = bare_user (arc_value w.in-Some.user.now) in
          let lacks : has_role_of c.args.role.now user ≡ false =
          ap (λ (u : UserRec). is_among u.roles c.args.role.now) (sym w.deref.ensures) ∙ ap (λ (ns : List (List ℕ)). is_among ns c.args.role.now) (sym w.as_slice.ensures) ∙ sym w.is_among.ensures ∙ w.if-is_among.false in
          behind (has_role_of c.args.role.now) (bare c.args.catalog.now).users c.loop-place.place user w.in-Some.ensures.bare c.loop-place.invariant lacks
      | in-None w ↦ c.loop-place.invariant ∙ none_here (has_role_of c.args.role.now) (bare c.args.catalog.now).users c.loop-place.place w.in-None.ensures.bare
    ]
