use Rattle.std.proofs.Common.{◌≡◌, take}
use Rattle.lb_tree.proofs.copy_query.copy_names.Given as goal

-- the copies so far are the items so far
abbrev pub invariant-loop-name : goal.invariant-loop-name
invariant-loop-name l = l.copied ≡ take l.name-index l.names
