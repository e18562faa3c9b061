-- What stands after an opener is the next level's.
use Rattle.std.proofs.Common.{◌≡◌, ℕ, zero, suc, ◌-◌, ◌<◌, refl, sym, ap, ◌∙◌, List, arith}
use Rattle.lb_reade.specs.declared.inside.Wanted.{Wanted}
use Rattle.lb_reade.specs.declared.inside.Wanted.TheVariants as wanteds
use Rattle.lb_tok.specs.declared.token.Token.{Token}
use Rattle.lb_readt.specs.Readers.{deep, stop}
use Rattle.lb_readq.specs.Queries.{readers}
use Rattle.lb_reade.specs.Bracketed.{within}
use Rattle.lb_readq.specs.Levels.{level_at}

pred_suc : (d : ℕ) → suc d - 1 ≡ d
pred_suc d = omega arith

next : (d : ℕ) (k : Wanted) → within (readers (suc d)) k ≡ level_at (readers d) k
unfolding readers
next d wanteds.Expr = refl
next d wanteds.Condition = refl
next d wanteds.Mixed = refl
next d wanteds.Query = refl

pub one_in : (d : ℕ) (k : Wanted) → 0 < d → within (readers d) k ≡ level_at (readers (d - 1)) k
one_in zero k h = absurd (omega arith)
one_in (suc d) k h = next d k ∙ ap (λ (e : ℕ). level_at (readers e) k) (sym (pred_suc d))

pub none_in : (k : Wanted) (ts : List Token) → within (readers 0) k ts ≡ stop deep ts
unfolding readers
none_in wanteds.Expr ts = refl
none_in wanteds.Condition ts = refl
none_in wanteds.Mixed ts = refl
none_in wanteds.Query ts = refl
