use Rattle.std.proofs.Common.{sym, ap, ◌∙◌}
use Rattle.std.specs.Option.{option_map}
use Rattle.std.specs.Arc.{arc_value}
use Rattle.lb_cat.specs.Catalog.{table_named}
use Rattle.lb_cat.specs.Stamps.{Kept, bare, bare_table}
use Rattle.lb_cat.proofs.Bare.{tables_are_bare, mapped_twice}
use Rattle.lb_cat.proofs.kept.Catalog.table.Goals as goal

pub returns-clause-bare : goal.returns-clause-bare
returns-clause-bare c =
    let S : Kept = record { tables = c.self.inside.tables; policies = c.self.inside.policies; components = c.self.inside.components; users = c.self.inside.users; roles = c.self.inside.roles } in
    mapped_twice bare_table (λ r. arc_value r.now) c.named.result
    ∙ ap (option_map bare_table) c.named.ensures
    ∙ sym ((tables_are_bare S).found c.args.name.now)
    ∙ ap (λ K. table_named (bare K) c.args.name.now) c.self.view_is
