use Rattle.std.proofs.Common.{◌≡◌, take}
use Rattle.std.specs.Prelude.{filter_map}
use Rattle.lb_alter.specs.ChangePolicy.{definition_named}
use Rattle.lb_cat.specs.Stamps.{bare}
use Rattle.lb_policy.proofs.policy.shape_of.Given as goal

-- the components so far
abbrev pub invariant-loop-name : goal.invariant-loop-name
invariant-loop-name l = l.shape ≡ filter_map (definition_named (bare l.catalog)) (take l.name-index l.names)
