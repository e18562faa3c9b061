use Rattle.lb_cat.specs.Records.{IsMarked}
use Rattle.lb_cat.proofs.Marking.{ReplacedTo}
use Rattle.lb_cat.proofs.records.Records.marked.Given as goal

-- the records before the place have been marked
abbrev pub invariant-loop-place : goal.invariant-loop-place
invariant-loop-place g l = ReplacedTo (IsMarked g.R.Stamped.own_key (g.R.Stamped.stamped l.stamp) l.keys) l.place l.self l.marked
