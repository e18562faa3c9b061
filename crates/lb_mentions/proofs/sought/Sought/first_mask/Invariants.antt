use Rattle.std.proofs.Common.{◌≡◌, drop, map, option_map}
use Rattle.std.specs.Prelude.{find}
use Rattle.lb_alter.specs.Stored.{stored_name, stored_mask}
use Rattle.lb_mentions.specs.Seeking.{names}
use Rattle.lb_mentions.proofs.sought.Sought.first_mask.Given as goal

-- it is among those that are left
abbrev pub invariant-loop-mask : goal.invariant-loop-mask
invariant-loop-mask l = option_map stored_name (find (names l.self) (map stored_mask l.masks)) ≡ option_map stored_name (find (names l.self) (map stored_mask (drop l.mask-index l.masks)))
