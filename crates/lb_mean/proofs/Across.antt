-- Two catalogues with the same of what a query mentions answer it alike.
use Rattle.std.proofs.Common.{[], ◌∷◌}
use Rattle.lb_mean.specs.Answer.{unless_refused}
use Rattle.lb_mean.specs.Refused.{first_some}
use Rattle.lb_mean.specs.Laws.{RefusalFrame, AcrossFrame}
use Rattle.lb_mean.proofs.Access.{access_same}
use Rattle.lb_mean.proofs.Seen.{rows_frame}

pub refusal_frame : RefusalFrame
refusal_frame C D c T s h = access_same C D T T c s h

pub across_frame : AcrossFrame
across_frame checks C D c T U day s h same = λ i. unless_refused (first_some (same i ∷ access_same C D T U c s h i ∷ [])) (rows_frame C D c T U day s h i)
