use Rattle.lb_book.proofs.Gone.{gone_unless}
use Rattle.lb_book.proofs.versions.remove_under.Goals as goal

pub returns-in_default : goal.returns-in_default
returns-in_default c = gone_unless c.args.key.now c.in_default.not-Rows c.args.tables.now
