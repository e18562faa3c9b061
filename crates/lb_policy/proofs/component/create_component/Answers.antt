use Rattle.lb_changed.proofs.Steps.{given_then, passes_then}
use Rattle.lb_policy.proofs.component.create_component.Goals as goal

pub returns : goal.returns
returns c T =
    passes_then c.args.catalog.now T c.leaves.result _ _ c.in_ok-secadm.ensures
    (passes_then c.args.catalog.now T c.leaves.result _ _ c.in_ok-is_new.ensures.passes
    (given_then c.args.catalog.now T c.leaves.result _ _ _ c.in_ok-component.ensures (c.leaves.ensures T)))
