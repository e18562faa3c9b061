-- Whether one more bracket may open.
use Rattle.std.proofs.Common.{true, false, ◌≡◌, ℕ, zero, suc, ◌<◌, refl, arith}
use Rattle.lb_readq.specs.Queries.{readers}

pub no_room : (readers 0).room ≡ false
unfolding readers
no_room = refl

pub has_room : (d : ℕ) → 0 < d → (readers d).room ≡ true
unfolding readers
has_room zero h = absurd (omega arith)
has_room (suc d) h = refl
