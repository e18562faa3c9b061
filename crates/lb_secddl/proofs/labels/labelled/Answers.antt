use Rattle.std.proofs.Common.{sym, subst, List}
use Rattle.lb_stmt.specs.declared.change.Change.{Change}
use Rattle.lb_stmt.specs.declared.change.LabelPart.{LabelPart}
use Rattle.lb_cat.specs.Stamps.{bare}
use Rattle.lb_alter.specs.Change.{attempt}
use Rattle.lb_alter.specs.Naming.{stored_rules}
use Rattle.lb_changed.specs.Made.{Makes}
use Rattle.lb_alter.specs.ChangeLabel.{create_label}
use Rattle.lb_secddl.proofs.labels.labelled.Goals as goal

pub returns-in-CreateComponent : goal.returns-in-CreateComponent
returns-in-CreateComponent c T =
    subst (λ (s : Change). Makes c.args.catalog.now T (attempt stored_rules (bare c.args.catalog.now) T c.args.user.now s) c.create_component.result) (sym c.in-CreateComponent.is) (c.create_component.ensures T)

pub returns-in-DropComponent : goal.returns-in-DropComponent
returns-in-DropComponent c T =
    subst (λ (s : Change). Makes c.args.catalog.now T (attempt stored_rules (bare c.args.catalog.now) T c.args.user.now s) c.drop_component.result) (sym c.in-DropComponent.is) (c.drop_component.ensures T)

pub returns-in-CreatePolicy : goal.returns-in-CreatePolicy
returns-in-CreatePolicy c T =
    subst (λ (s : Change). Makes c.args.catalog.now T (attempt stored_rules (bare c.args.catalog.now) T c.args.user.now s) c.create_policy.result) (sym c.in-CreatePolicy.is) (c.create_policy.ensures T)

pub returns-in-DropPolicy : goal.returns-in-DropPolicy
returns-in-DropPolicy c T =
    subst (λ (s : Change). Makes c.args.catalog.now T (attempt stored_rules (bare c.args.catalog.now) T c.args.user.now s) c.drop_policy.result) (sym c.in-DropPolicy.is) (c.drop_policy.ensures T)

pub returns-in-CreateLabel : goal.returns-in-CreateLabel
returns-in-CreateLabel c T =
    subst (λ (s : Change). Makes c.args.catalog.now T (attempt stored_rules (bare c.args.catalog.now) T c.args.user.now s) c.create_label.result) (sym c.in-CreateLabel.is) (subst (λ (ps : List LabelPart). Makes c.args.catalog.now T (create_label (bare c.args.catalog.now) T c.args.user.now c.in-CreateLabel.label ps) c.create_label.result) c.as_slice.ensures (c.create_label.ensures T))

pub returns-in-DropLabel : goal.returns-in-DropLabel
returns-in-DropLabel c T =
    subst (λ (s : Change). Makes c.args.catalog.now T (attempt stored_rules (bare c.args.catalog.now) T c.args.user.now s) c.drop_label.result) (sym c.in-DropLabel.is) (c.drop_label.ensures T)
