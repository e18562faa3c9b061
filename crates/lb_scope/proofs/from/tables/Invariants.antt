use Rattle.std.proofs.Common.{◌≡◌, take, map}
use Rattle.lb_tree.specs.Folds.{chain_of}
use Rattle.lb_names.specs.Marks.{marked, mark_steps, tables_of}
use Rattle.lb_scope.proofs.from.tables.Given as goal

abbrev pub invariant-loop-chain : goal.invariant-loop-chain
invariant-loop-chain l = l.tabs ≡ tables_of (map (chain_of marked mark_steps) (take l.chain-index l.from))
