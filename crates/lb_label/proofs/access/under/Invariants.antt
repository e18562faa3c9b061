use Rattle.lb_label.proofs.UnderLemmas.{UnderSoFar}
use Rattle.lb_label.proofs.access.under.Given as goal

abbrev pub invariant-loop-rest : goal.invariant-loop-rest
invariant-loop-rest l = UnderSoFar l.component l.elements l.top l.found l.rest

abbrev pub decreases-loop-rest : goal.decreases-loop-rest
decreases-loop-rest l = l.rest
