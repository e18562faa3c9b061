use Rattle.std.proofs.Common.{ℕ, ◌≡◌, ◌∙◌, subst, List, Option}
use Rattle.std.specs.Prelude.{IfSome, option_map}
use Rattle.lb_cat.specs.declared.catalog.UserRec.{UserRec}
use Rattle.lb_cat.specs.Catalog.{User, user_named}
use Rattle.lb_cat.specs.Holdings.{without_exemptions}
use Rattle.lb_cat.specs.Stamps.{Kept, bare, bare_user}
use Rattle.lb_alter.specs.ChangeGrant.{exempting}
use Rattle.lb_grant.proofs.Leaving.{revoked, revoked_none}
use Rattle.lb_changed.proofs.Steps.{given_then, passes_then}
use Rattle.lb_grant.proofs.exemption.revoke_exemption.Goals as goal

pub returns-in_ok-changed-in-Some : goal.returns-in_ok-changed-in-Some
returns-in_ok-changed-in-Some c T =
    let K : Kept = c.args.catalog.now in
    let n : List ℕ = c.args.from.now in
    let f : User → User = exempting without_exemptions c.args.rule c.args.policy.now in
    passes_then K T c.leaves.result _ _ c.in_ok-secadm.ensures
    (given_then K T c.leaves.result _ _ _ c.in_ok-the_policy.ensures.gives
    (revoked K T c.leaves.result n f c.in_ok-changed-in-Some.changed (bare_user c.in-Some.before)
    (subst (λ (o : Option UserRec). option_map bare_user o ≡ user_named (bare K) n) c.in-Some.is c.in_ok-found.ensures.record)
    c.in_ok-changed-in-Some.ensures.record
    (c.in_ok-changed-in-Some.ensures.name ∙ subst (λ (o : Option UserRec). IfSome o (λ u. u.name ≡ n)) c.in-Some.is c.in_ok-found.ensures.name)
    (c.leaves.ensures T)))

pub returns-in-None : goal.returns-in-None
returns-in-None c T =
    let K : Kept = c.args.catalog.now in
    let n : List ℕ = c.args.from.now in
    let f : User → User = exempting without_exemptions c.args.rule c.args.policy.now in
    passes_then K T c.leaves_none.result _ _ c.in_ok-secadm.ensures
    (given_then K T c.leaves_none.result _ _ _ c.in_ok-the_policy.ensures.gives
    (revoked_none K T c.leaves_none.result n f
    (subst (λ (o : Option UserRec). option_map bare_user o ≡ user_named (bare K) n) c.in-None.is c.in_ok-found.ensures.record)
    (c.leaves_none.ensures T)))
