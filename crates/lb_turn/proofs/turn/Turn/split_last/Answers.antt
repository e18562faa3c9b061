use Rattle.lb_turn.proofs.Dividing.{divides_last, divided}
use Rattle.lb_turn.proofs.turn.Turn.split_last.Goals as goal

pub split_by-requires-clause-divided : goal.split_by-requires-clause-divided
split_by-requires-clause-divided g c = divides_last g.S.Standing.root g.S.Standing.root_before _ c.requires.root

pub returns-clause-divided : goal.returns-clause-divided
returns-clause-divided g c = divided g.S.Standing.root _ _ (divides_last g.S.Standing.root g.S.Standing.root_before _ c.requires.root) c.split_by.result c.split_by.ensures.known c.split_by.ensures.kept
