use Rattle.lb_mean.proofs.Stable.{is_sorted}
use Rattle.lb_mean.proofs.laws.stable_sort_is_sorted.Goals as goal

pub returns : goal.returns
returns g c = is_sorted
