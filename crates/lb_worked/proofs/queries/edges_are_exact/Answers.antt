use Rattle.lb_worked.proofs.Edges.{at_limit, beyond_limit, before_first, beyond_last, far_beyond}
use Rattle.lb_worked.proofs.queries.edges_are_exact.Goals as goal

pub returns-clause-at_limit : goal.returns-clause-at_limit
returns-clause-at_limit c = at_limit

pub returns-clause-beyond_limit : goal.returns-clause-beyond_limit
returns-clause-beyond_limit c = beyond_limit

pub returns-clause-before_first : goal.returns-clause-before_first
returns-clause-before_first c = before_first

pub returns-clause-beyond_last : goal.returns-clause-beyond_last
returns-clause-beyond_last c = beyond_last

pub returns-clause-far_beyond : goal.returns-clause-far_beyond
returns-clause-far_beyond c = far_beyond
