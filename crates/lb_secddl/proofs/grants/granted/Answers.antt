use Rattle.std.proofs.Common.{sym, subst}
use Rattle.lb_stmt.specs.declared.change.Change.{Change}
use Rattle.lb_cat.specs.Stamps.{bare}
use Rattle.lb_alter.specs.Change.{attempt}
use Rattle.lb_alter.specs.Naming.{stored_rules}
use Rattle.lb_changed.specs.Made.{Makes}
use Rattle.lb_secddl.proofs.grants.granted.Goals as goal

pub returns-in-GrantLabel : goal.returns-in-GrantLabel
returns-in-GrantLabel c T =
    subst (λ (s : Change). Makes c.args.catalog.now T (attempt stored_rules (bare c.args.catalog.now) T c.args.user.now s) c.grant_label.result) (sym c.in-GrantLabel.is) (c.grant_label.ensures T)

pub returns-in-RevokeLabel : goal.returns-in-RevokeLabel
returns-in-RevokeLabel c T =
    subst (λ (s : Change). Makes c.args.catalog.now T (attempt stored_rules (bare c.args.catalog.now) T c.args.user.now s) c.revoke_label.result) (sym c.in-RevokeLabel.is) (c.revoke_label.ensures T)

pub returns-in-GrantExemption : goal.returns-in-GrantExemption
returns-in-GrantExemption c T =
    subst (λ (s : Change). Makes c.args.catalog.now T (attempt stored_rules (bare c.args.catalog.now) T c.args.user.now s) c.grant_exemption.result) (sym c.in-GrantExemption.is) (c.grant_exemption.ensures T)

pub returns-in-RevokeExemption : goal.returns-in-RevokeExemption
returns-in-RevokeExemption c T =
    subst (λ (s : Change). Makes c.args.catalog.now T (attempt stored_rules (bare c.args.catalog.now) T c.args.user.now s) c.revoke_exemption.result) (sym c.in-RevokeExemption.is) (c.revoke_exemption.ensures T)

pub returns-in-CreateRole : goal.returns-in-CreateRole
returns-in-CreateRole c T =
    subst (λ (s : Change). Makes c.args.catalog.now T (attempt stored_rules (bare c.args.catalog.now) T c.args.user.now s) c.create_role.result) (sym c.in-CreateRole.is) (c.create_role.ensures T)

pub returns-in-DropRole : goal.returns-in-DropRole
returns-in-DropRole c T =
    subst (λ (s : Change). Makes c.args.catalog.now T (attempt stored_rules (bare c.args.catalog.now) T c.args.user.now s) c.drop_role.result) (sym c.in-DropRole.is) (c.drop_role.ensures T)

pub returns-in-GrantRole : goal.returns-in-GrantRole
returns-in-GrantRole c T =
    subst (λ (s : Change). Makes c.args.catalog.now T (attempt stored_rules (bare c.args.catalog.now) T c.args.user.now s) c.grant_role.result) (sym c.in-GrantRole.is) (c.grant_role.ensures T)

pub returns-in-RevokeRole : goal.returns-in-RevokeRole
returns-in-RevokeRole c T =
    subst (λ (s : Change). Makes c.args.catalog.now T (attempt stored_rules (bare c.args.catalog.now) T c.args.user.now s) c.revoke_role.result) (sym c.in-RevokeRole.is) (c.revoke_role.ensures T)

pub returns-in-GrantSecadm : goal.returns-in-GrantSecadm
returns-in-GrantSecadm c T =
    subst (λ (s : Change). Makes c.args.catalog.now T (attempt stored_rules (bare c.args.catalog.now) T c.args.user.now s) c.grant_secadm.result) (sym c.in-GrantSecadm.is) (c.grant_secadm.ensures T)

pub returns-in-RevokeSecadm : goal.returns-in-RevokeSecadm
returns-in-RevokeSecadm c T =
    subst (λ (s : Change). Makes c.args.catalog.now T (attempt stored_rules (bare c.args.catalog.now) T c.args.user.now s) c.revoke_secadm.result) (sym c.in-RevokeSecadm.is) (c.revoke_secadm.ensures T)
