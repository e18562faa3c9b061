use Rattle.std.proofs.Common.{◌∙◌, ap, Some}
use Rattle.lb_cat.specs.Stamps.{bare_table}
use Rattle.lb_mentions.specs.Seeking.{user_in}
use Rattle.lb_mentions.proofs.stored.user_at.Goals as goal

pub returns-in-Some : goal.returns-in-Some
returns-in-Some c = c.other_user.ensures ∙ ap (λ t. user_in c.args.name.now (Some (bare_table t))) c.deref.ensures ∙ ap (user_in c.args.name.now) c.in-Some.ensures.bare
