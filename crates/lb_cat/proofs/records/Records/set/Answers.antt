use Rattle.std.proofs.Common.{sym, ap, ◌∙◌}
use Rattle.std.specs.Prelude.{slice_get, slice_set}
use Rattle.std.specs.Arc.{arc_value}
use Rattle.lb_cat.proofs.ByName.{set_entry, by_name_after_set}
use Rattle.lb_cat.proofs.records.Records.set.Goals as goal

pub invariant_of-self : goal.invariant_of-self
invariant_of-self g c = by_name_after_set g.R.Named.name c.self.inside.records.entries c.args.place c.args.rec c.self.invariant (λ r h. c.requires.name r (ap (λ xs. slice_get xs c.args.place) (sym c.self.view_is) ∙ h))

pub returns : goal.returns
returns g c =
    set_entry g.R.Named.name c.self.inside.records.entries c.args.place c.args.rec
    ∙ ap (λ xs. slice_set xs c.args.place (arc_value c.args.rec)) c.self.view_is
