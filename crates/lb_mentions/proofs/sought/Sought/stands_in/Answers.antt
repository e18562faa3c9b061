use Rattle.std.proofs.Common.{◌∙◌, ap}
use Rattle.std.specs.Prelude.{is_some}
use Rattle.lb_cat.specs.Stamps.{bare_table}
use Rattle.lb_mentions.specs.Seeking.{is_sought}
use Rattle.lb_mentions.proofs.Named.{one_is_named, is_there}
use Rattle.lb_mentions.proofs.sought.Sought.stands_in.Goals as goal

pub returns : goal.returns
returns c = c.is_some.ensures ∙ is_there (λ n. n.now) c.first_stored.result ∙ ap is_some c.first_stored.ensures ∙ one_is_named (is_sought c.args.self.now) (bare_table c.args.table.now)
