use Rattle.std.proofs.Common.{refl}
use Rattle.lb_changed.proofs.Rows.{rows_stay}
use Rattle.lb_changed.proofs.changed.done.Goals as goal

pub returns : goal.returns
returns c K T stamps none = record { cat = refl; tables = rows_stay c.args.touched T none; touched = refl; version = tt; reply = refl; stamps = λ k _. stamps k }
