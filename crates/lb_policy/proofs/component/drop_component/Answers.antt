use Rattle.lb_changed.proofs.Steps.{given_then, passes_then}
use Rattle.lb_policy.proofs.component.drop_component.Goals as goal

pub returns : goal.returns
returns c T =
    passes_then c.args.catalog.now T c.drops.result _ _ c.in_ok-secadm.ensures
    (given_then c.args.catalog.now T c.drops.result _ _ _ c.in_ok-the_component.ensures
    (passes_then c.args.catalog.now T c.drops.result _ _ c.in_ok-is_unused.ensures (c.drops.ensures T)))
