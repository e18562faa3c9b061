use Rattle.std.proofs.Common.{subst, sym, ◌∙◌}
use Rattle.lb_cat.specs.declared.refusal.Refusal.TheVariants as refusals
use Rattle.lb_alter.specs.Refusing.{when}
use Rattle.lb_changed.specs.Given.{Passes}
use Rattle.lb_policy.proofs.Components.{among_turned}
use Rattle.lb_policy.proofs.policy.is_first.Goals as goal

pub returns : goal.returns
returns c = subst (λ b. Passes (when b (refusals.Exists c.args.name.now)) c.unless_taken.result) (c.is_among.ensures ∙ sym (among_turned c.args.before.now c.args.name.now)) c.unless_taken.ensures
