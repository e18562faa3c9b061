use Rattle.std.proofs.Common.{subst, sym, ◌∙◌, map}
use Rattle.lb_cat.specs.declared.refusal.Refusal.TheVariants as refusals
use Rattle.lb_alter.specs.Refusing.{when}
use Rattle.lb_changed.specs.Given.{Passes}
use Rattle.lb_policy.proofs.Components.{among_turned}
use Rattle.lb_policy.proofs.fitting.is_first.Goals as goal

pub returns : goal.returns
returns c = subst (λ b. Passes (when b (refusals.Exists c.args.component.now)) c.unless_taken.result) (c.is_named.ensures ∙ sym (among_turned (map (λ x. x.component) c.args.before.now) c.args.component.now)) c.unless_taken.ensures
