use Rattle.lb_tables.proofs.Named.{after_none}
use Rattle.lb_tables.proofs.flaws.columns_refusal.Goals as goal

pub loop-place-init : goal.loop-place-init
loop-place-init c = after_none c.args.elements.now
