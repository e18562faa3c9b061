use Rattle.lb_cat.specs.Stamps.{bare, bare_table}
use Rattle.lb_tables.proofs.Same.{alters_same}
use Rattle.lb_tables.proofs.alter.column_secured.Goals as goal

pub returns : goal.returns
returns c T = alters_same c.args.catalog.now T (bare c.args.catalog.now) (bare_table c.in_ok-rec.rec) _ c.alters.result c.in_ok-rec.ensures.bare (c.alters.ensures T)
