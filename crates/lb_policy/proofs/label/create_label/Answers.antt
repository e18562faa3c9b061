use Rattle.std.proofs.Common.{ap, sym, subst, ◌∙◌, [], ◌∷◌, ◌++◌}
use Rattle.std.specs.Prelude.{is_some}
use Rattle.lb_cat.specs.Catalog.{label_named}
use Rattle.lb_cat.specs.Stamps.{Kept, bare, bare_policy}
use Rattle.lb_cat.specs.declared.catalog.PolicyRec.{PolicyRec}
use Rattle.lb_cat.specs.declared.refusal.Refusal.TheVariants as refusals
use Rattle.lb_alter.specs.ChangeLabel.{label_parts, parts_refusal}
use Rattle.lb_alter.specs.Refusing.{alters_policy, when}
use Rattle.lb_changed.specs.Made.{Makes}
use Rattle.lb_changed.proofs.Steps.{given_then, passes_then}
use Rattle.lb_policy.proofs.label.create_label.Goals as goal

pub returns : goal.returns
returns c T =
    let K : Kept = c.args.catalog.now in
    passes_then K T c.adds.result _ _ c.in_ok-secadm.ensures
    (given_then K T c.adds.result _ _ _ c.in_ok-policy.ensures.gives
    (passes_then K T c.adds.result _ _ (ap (λ (p : PolicyRec). when (is_some (label_named (bare_policy p) c.args.label.now.label)) (refusals.Exists c.args.label.now.label)) (sym c.deref.ensures) ∙ c.in_ok-is_new.ensures)
    (passes_then K T c.adds.result _ _ (ap (λ (p : PolicyRec). parts_refusal (bare_policy p) [] c.args.parts.now) (sym c.deref-2.ensures) ∙ c.in_ok-parts_fit.ensures)
    (subst (λ (p : PolicyRec). Makes K T (alters_policy (bare K) T (record (bare_policy p) { labels = p.labels ++ record { name = c.args.label.now.label; parts = record { items = label_parts (bare_policy p) c.args.parts.now } } ∷ [] })) c.adds.result) c.deref-3.ensures (c.adds.ensures T)))))
