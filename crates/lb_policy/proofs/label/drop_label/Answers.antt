use Rattle.std.proofs.Common.{ap, sym, subst, ◌∙◌}
use Rattle.lb_cat.specs.Catalog.{is_label}
use Rattle.lb_cat.specs.Stamps.{Kept, bare, bare_policy}
use Rattle.lb_cat.specs.declared.catalog.PolicyRec.{PolicyRec}
use Rattle.lb_rows.specs.Lists.{without}
use Rattle.lb_alter.specs.Refusing.{alters_policy, the_label}
use Rattle.lb_changed.specs.Made.{Makes}
use Rattle.lb_changed.proofs.Steps.{given_then, passes_then}
use Rattle.lb_policy.proofs.label.drop_label.Goals as goal

pub returns : goal.returns
returns c T =
    let K : Kept = c.args.catalog.now in
    passes_then K T c.drops.result _ _ c.in_ok-secadm.ensures
    (given_then K T c.drops.result _ _ _ c.in_ok-policy.ensures.gives
    (given_then K T c.drops.result _ _ _ (ap (λ (p : PolicyRec). the_label (bare_policy p) c.args.label.now.label) (sym c.deref.ensures) ∙ c.in_ok-the_label.ensures)
    (passes_then K T c.drops.result _ _ c.in_ok-is_not_held.ensures
    (passes_then K T c.drops.result _ _ c.in_ok-is_on_no_table.ensures
    (subst (λ (p : PolicyRec). Makes K T (alters_policy (bare K) T (record (bare_policy p) { labels = without (is_label c.args.label.now.label) p.labels })) c.drops.result) c.deref-2.ensures (c.drops.ensures T))))))
