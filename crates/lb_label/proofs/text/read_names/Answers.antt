use Rattle.std.proofs.Common.{◌≡◌}
use Rattle.lb_label.proofs.text.read_names.Goals as goal

pub cut-requires-text-text : goal.cut-requires-text-text
cut-requires-text-text c _ = c.loop-bits.invariant.text
