use Rattle.std.specs.Arc.{arc_value}
use Rattle.lb_cat.specs.Stamps.{bare, bare_table}
use Rattle.lb_tables.proofs.Same.{rows_same}
use Rattle.lb_tables.proofs.create.created.Goals as goal

pub returns : goal.returns
returns c T =
    rows_same c.args.catalog.now T (bare c.args.catalog.now) (bare_table c.in_ok-rec.rec) _ (arc_value c.in_ok-version.version) _ c.in_ok-rec.rec.name c.args.name.now c.with_rows.result
    c.in_ok-rec.ensures.bare c.in_ok-version.ensures c.in_ok-rec.ensures.name (c.with_rows.ensures T)
