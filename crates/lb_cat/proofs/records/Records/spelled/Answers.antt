use Rattle.std.proofs.Common.{ap, ◌∙◌}
use Rattle.std.specs.Prelude.{find}
use Rattle.std.specs.Option.{option_map}
use Rattle.std.specs.Str.{bytes_eq}
use Rattle.std.specs.Arc.{arc_value}
use Rattle.lb_cat.proofs.ByName.{find_entry, lent_value}
use Rattle.lb_cat.proofs.records.Records.spelled.Goals as goal

pub returns : goal.returns
returns g c =
    lent_value c.get.result
    ∙ ap (option_map arc_value) c.get.ensures.value
    ∙ find_entry g.R.Named.name c.args.name.now c.self.inside.records.entries c.self.invariant
    ∙ ap (find (λ x. bytes_eq (g.R.Named.name x) c.args.name.now)) c.self.view_is
