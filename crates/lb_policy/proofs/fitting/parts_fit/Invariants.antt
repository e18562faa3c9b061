use Rattle.std.proofs.Common.{◌≡◌, [], take, drop, map}
use Rattle.lb_alter.specs.ChangeLabel.{parts_refusal}
use Rattle.lb_cat.specs.Stamps.{bare_policy}
use Rattle.lb_policy.specs.Before.{turned}
use Rattle.lb_policy.proofs.fitting.parts_fit.Given as goal

-- the parts that are left decide
abbrev pub invariant-loop-place : goal.invariant-loop-place
invariant-loop-place l = parts_refusal (bare_policy l.policy) [] l.parts ≡ parts_refusal (bare_policy l.policy) (turned (map (λ x. x.component) (take l.place l.parts))) (drop l.place l.parts)
