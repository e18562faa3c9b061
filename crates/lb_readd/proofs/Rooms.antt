-- What stands in the bracket of CREATE TABLE.
use Rattle.std.proofs.Common.{◌≡◌, ℕ, zero, suc, ◌-◌, ◌<◌, sym, ap, arith}
use Rattle.lb_readt.specs.Readers.{listed}
use Rattle.lb_readq.specs.Queries.{readers}
use Rattle.lb_readd.specs.Defining.{element_at, in_table_at}

pred_suc : (d : ℕ) → suc d - 1 ≡ d
pred_suc d = omega arith

pub in_table_is : (d : ℕ) → 0 < d → in_table_at d ≡ listed (element_at (readers (d - 1)))
unfolding in_table_at
in_table_is zero h = absurd (omega arith)
in_table_is (suc d) h = ap (λ (k : ℕ). listed (element_at (readers k))) (sym (pred_suc d))
