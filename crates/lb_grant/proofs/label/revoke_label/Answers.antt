use Rattle.std.proofs.Common.{ℕ, ◌≡◌, subst, List, Ok, Err, Option}
use Rattle.std.specs.Prelude.{IfSome, option_map}
use Rattle.lb_cat.specs.declared.catalog.PolicyRec.{PolicyRec}
use Rattle.lb_cat.specs.declared.catalog.UserRec.{UserRec}
use Rattle.lb_cat.specs.Catalog.{user_named}
use Rattle.lb_cat.specs.Stamps.{Kept, bare, bare_policy, bare_user}
use Rattle.lb_alter.specs.Refusing.{the_label}
use Rattle.lb_grant.proofs.Revoking.{label_not_held, label_taken, revoke_goes_on}
use Rattle.lb_grant.proofs.label.revoke_label.Goals as goal

pub returns-in-Some : goal.returns-in-Some
returns-in-Some c T =
    let K : Kept = c.args.catalog.now in
    let n : List ℕ = c.args.from.now in
    revoke_goes_on K T c.take_label.result c.args.user.now c.args.label.now n _ _ c.in_ok-secadm.ensures c.in_ok-policy.ensures.gives
    (subst (λ (p : PolicyRec). the_label (bare_policy p) c.args.label.now.label ≡ Ok c.in_ok-the_label.field-0.now) c.deref.ensures c.in_ok-the_label.ensures)
    (label_taken K T c.take_label.result c.args.label.now n (bare_user c.in-Some.before)
    (subst (λ (o : Option UserRec). option_map bare_user o ≡ user_named (bare K) n) c.in-Some.is c.in_ok-found.ensures.record)
    (subst (λ (o : Option UserRec). IfSome o (λ u. u.name ≡ n)) c.in-Some.is c.in_ok-found.ensures.name)
    (c.take_label.ensures T))

pub returns-in-None : goal.returns-in-None
returns-in-None c T =
    let K : Kept = c.args.catalog.now in
    let n : List ℕ = c.args.from.now in
    revoke_goes_on K T (Err c.unknown.result) c.args.user.now c.args.label.now n _ _ c.in_ok-secadm.ensures c.in_ok-policy.ensures.gives
    (subst (λ (p : PolicyRec). the_label (bare_policy p) c.args.label.now.label ≡ Ok c.in_ok-the_label.field-0.now) c.deref.ensures c.in_ok-the_label.ensures)
    (label_not_held K T c.args.label.now n c.unknown.result
    (subst (λ (o : Option UserRec). option_map bare_user o ≡ user_named (bare K) n) c.in-None.is c.in_ok-found.ensures.record)
    c.unknown.ensures)
