use Rattle.std.proofs.Common.{ℕ, ap, sym, ◌∙◌, List, []}
use Rattle.lb_cat.specs.Stamps.{Kept, bare}
use Rattle.lb_alter.specs.ChangePolicy.{components_refusal}
use Rattle.lb_changed.proofs.Steps.{passes_then}
use Rattle.lb_policy.proofs.policy.create_policy.Goals as goal

pub returns : goal.returns
returns c T =
    let K : Kept = c.args.catalog.now in
    passes_then K T c.leaves.result _ _ c.in_ok-secadm.ensures
    (passes_then K T c.leaves.result _ _ c.in_ok-is_new.ensures.passes
    (passes_then K T c.leaves.result _ _ c.in_ok-are_few.ensures.passes
    (passes_then K T c.leaves.result _ _ (ap (λ (ns : List (List ℕ)). components_refusal (bare K) [] ns) (sym c.as_slice.ensures) ∙ c.in_ok-are_there.ensures)
    (c.leaves.ensures T))))
