use Rattle.std.proofs.Common.{sym, subst}
use Rattle.lb_stmt.specs.declared.change.Change.{Change}
use Rattle.lb_cat.specs.Stamps.{bare}
use Rattle.lb_alter.specs.Change.{attempt}
use Rattle.lb_alter.specs.Naming.{stored_rules}
use Rattle.lb_changed.specs.Made.{Makes}
use Rattle.lb_secddl.proofs.controls.controlled.Goals as goal

pub returns-in-Activate : goal.returns-in-Activate
returns-in-Activate c T =
    subst (λ (s : Change). Makes c.args.catalog.now T (attempt stored_rules (bare c.args.catalog.now) T c.args.user.now s) c.activate.result) (sym c.in-Activate.is) (c.activate.ensures T)

pub returns-in-CreatePermission : goal.returns-in-CreatePermission
returns-in-CreatePermission c T =
    subst (λ (s : Change). Makes c.args.catalog.now T (attempt stored_rules (bare c.args.catalog.now) T c.args.user.now s) c.create_permission.result) (sym c.in-CreatePermission.is) (c.create_permission.ensures T)

pub returns-in-CreateMask : goal.returns-in-CreateMask
returns-in-CreateMask c T =
    subst (λ (s : Change). Makes c.args.catalog.now T (attempt stored_rules (bare c.args.catalog.now) T c.args.user.now s) c.create_mask.result) (sym c.in-CreateMask.is) (c.create_mask.ensures T)

pub returns-in-SwitchPermission : goal.returns-in-SwitchPermission
returns-in-SwitchPermission c T =
    subst (λ (s : Change). Makes c.args.catalog.now T (attempt stored_rules (bare c.args.catalog.now) T c.args.user.now s) c.switch_permission.result) (sym c.in-SwitchPermission.is) (c.switch_permission.ensures T)

pub returns-in-SwitchMask : goal.returns-in-SwitchMask
returns-in-SwitchMask c T =
    subst (λ (s : Change). Makes c.args.catalog.now T (attempt stored_rules (bare c.args.catalog.now) T c.args.user.now s) c.switch_mask.result) (sym c.in-SwitchMask.is) (c.switch_mask.ensures T)

pub returns-in-DropPermission : goal.returns-in-DropPermission
returns-in-DropPermission c T =
    subst (λ (s : Change). Makes c.args.catalog.now T (attempt stored_rules (bare c.args.catalog.now) T c.args.user.now s) c.drop_permission.result) (sym c.in-DropPermission.is) (c.drop_permission.ensures T)

pub returns-in-DropMask : goal.returns-in-DropMask
returns-in-DropMask c T =
    subst (λ (s : Change). Makes c.args.catalog.now T (attempt stored_rules (bare c.args.catalog.now) T c.args.user.now s) c.drop_mask.result) (sym c.in-DropMask.is) (c.drop_mask.ensures T)
