use Rattle.std.proofs.Common.{subst, find}
use Rattle.lb_alter.specs.ChangeControl.{is_bad_source}
use Rattle.lb_cat.specs.Stamps.{bare}
use Rattle.lb_names.specs.Mentions.{in_expr, tables_in}
use Rattle.lb_resolve.specs.Passing.{Passes}
use Rattle.lb_resolve.proofs.Sources.{value_sources}
use Rattle.lb_resolve.proofs.source.value_source.Goals as goal

pub returns : goal.returns
returns c =
    c.first_source.ensures (find (is_bad_source (bare c.args.catalog.now) c.args.protected.now) (tables_in (in_expr c.args.value.now)))
    (subst (Passes c.pass_value.result) (value_sources (bare c.args.catalog.now) c.args.protected.now c.args.on.now c.args.value.now) c.pass_value.ensures)
