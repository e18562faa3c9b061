-- The examples of specs/Edges, computed.
use Rattle.std.proofs.Common.{refl}
use Rattle.lb_worked.specs.Edges.{AtLimit, BeyondLimit, BeforeFirst, BeyondLast, FarBeyond}

pub at_limit : AtLimit
at_limit = refl

pub beyond_limit : BeyondLimit
beyond_limit = refl

pub before_first : BeforeFirst
before_first = refl

pub beyond_last : BeyondLast
beyond_last = refl

pub far_beyond : FarBeyond
far_beyond = refl
