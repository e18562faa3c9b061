use Rattle.lb_kinds.proofs.Settings.{taken_fits}
use Rattle.lb_kinds.proofs.laws.taken_values_have_their_columns_kind.Goals as goal

pub returns : goal.returns
returns c = taken_fits
