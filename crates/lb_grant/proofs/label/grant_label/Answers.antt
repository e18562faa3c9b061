use Rattle.std.proofs.Common.{sym, subst}
use Rattle.std.specs.List.{AllByRecursion}
use Rattle.std.specs.Arc.{arc_value}
use Rattle.lb_label.specs.Label.{IsLabel}
use Rattle.lb_cat.specs.declared.catalog.LabelRec.{LabelRec}
use Rattle.lb_cat.specs.declared.catalog.PolicyRec.{PolicyRec}
use Rattle.lb_cat.specs.Stamps.{Kept, bare, bare_policy}
use Rattle.lb_changed.specs.Made.{Makes}
use Rattle.lb_grant.specs.Labelling.{label_granted}
use Rattle.lb_grant.proofs.Labels.{policy_has_labels}
use Rattle.lb_changed.proofs.Steps.{given_then, passes_then}
use Rattle.lb_grant.proofs.label.grant_label.Goals as goal

pub grant_label_of-requires : goal.grant_label_of-requires
grant_label_of-requires c =
    subst (λ (p : PolicyRec). AllByRecursion (λ (l : LabelRec). IsLabel p.shape l.parts.items) p.labels) (sym c.deref.ensures)
    (policy_has_labels (bare c.args.catalog.now) c.args.label.now.policy (arc_value c.in_ok-policy.policy.now) c.requires.shapes c.in_ok-policy.ensures.gives)

pub returns : goal.returns
returns c T =
    let K : Kept = c.args.catalog.now in
    passes_then K T c.grant_label_of.result _ _ c.in_ok-secadm.ensures
    (given_then K T c.grant_label_of.result _ _ _ c.in_ok-policy.ensures.gives
    (subst (λ (p : PolicyRec). Makes K T (label_granted (bare K) T (bare_policy p) c.args.label.now c.args.to.now c.args.access) c.grant_label_of.result) c.deref.ensures (c.grant_label_of.ensures T)))
