use Rattle.std.proofs.Common.{ap, sym, ◌∙◌}
use Rattle.lb_cat.specs.Stamps.{Kept, bare_policy}
use Rattle.lb_cat.specs.declared.catalog.PolicyRec.{PolicyRec}
use Rattle.lb_alter.specs.ChangePolicy.{first_label}
use Rattle.lb_alter.specs.Refusing.{in_use}
use Rattle.lb_changed.proofs.Steps.{given_then, passes_then}
use Rattle.lb_policy.proofs.dropping.drop_policy.Goals as goal

pub returns : goal.returns
returns c T =
    let K : Kept = c.args.catalog.now in
    passes_then K T c.drops.result _ _ c.in_ok-secadm.ensures
    (given_then K T c.drops.result _ _ _ c.in_ok-policy.ensures.gives
    (passes_then K T c.drops.result _ _ c.in_ok-is_on_no_table.ensures
    (passes_then K T c.drops.result _ _ (ap (λ (p : PolicyRec). in_use c.args.name.now (first_label (bare_policy p).labels)) (sym c.deref.ensures) ∙ c.in_ok-has_no_label.ensures)
    (c.drops.ensures T))))
