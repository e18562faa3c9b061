use Rattle.std.proofs.Common.{◌≡◌, take}
use Rattle.std.specs.List.{flat_map}
use Rattle.lb_tok.specs.Spacing.{laid}
use Rattle.lb_tok.specs.ChangePieces.{under_pieces}
use Rattle.lb_print.proofs.label.tree_elements.Given as goal

abbrev pub invariant-loop-part : goal.invariant-loop-part
invariant-loop-part l = l.page ≡ laid l.initial.page (flat_map under_pieces (take l.part-index l.list))
