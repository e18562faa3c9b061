use Rattle.std.proofs.Common.{◌≡◌, take}
use Rattle.lb_tree.proofs.copy_query.copy_texts.Given as goal

-- the copies so far are the items so far
abbrev pub invariant-loop-text : goal.invariant-loop-text
invariant-loop-text l = l.copied ≡ take l.text-index l.texts
