use Rattle.std.proofs.Common.{sym, ap, ◌∙◌}
use Rattle.std.specs.Prelude.{slice_get}
use Rattle.lb_cat.proofs.ByName.{record_at}
use Rattle.lb_cat.proofs.records.Records.held.Goals as goal

pub returns : goal.returns
returns g c = ap (λ xs. slice_get xs c.args.place) (sym c.self.view_is) ∙ record_at c.self.inside.records.entries c.args.place c.index.result.now c.index.ensures
