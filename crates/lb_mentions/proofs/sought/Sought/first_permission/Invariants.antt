use Rattle.std.proofs.Common.{◌≡◌, drop, map, option_map}
use Rattle.std.specs.Prelude.{find}
use Rattle.lb_alter.specs.Stored.{stored_name, stored_permission}
use Rattle.lb_mentions.specs.Seeking.{names}
use Rattle.lb_mentions.proofs.sought.Sought.first_permission.Given as goal

-- it is among those that are left
abbrev pub invariant-loop-permission : goal.invariant-loop-permission
invariant-loop-permission l = option_map stored_name (find (names l.self) (map stored_permission l.permissions)) ≡ option_map stored_name (find (names l.self) (map stored_permission (drop l.permission-index l.permissions)))
