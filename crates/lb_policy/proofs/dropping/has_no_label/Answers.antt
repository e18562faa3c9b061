use Rattle.std.proofs.Common.{subst, ap, ◌∙◌}
use Rattle.lb_alter.specs.Refusing.{in_use}
use Rattle.lb_alter.specs.ChangePolicy.{first_label}
use Rattle.lb_changed.specs.Given.{Passes}
use Rattle.lb_policy.proofs.dropping.has_no_label.Goals as goal

pub returns : goal.returns
returns c = subst (λ by. Passes (in_use c.args.name.now by) c.unless_used.result) (c.first_label.ensures ∙ ap first_label c.as_slice.ensures) c.unless_used.ensures
