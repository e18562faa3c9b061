use Rattle.std.proofs.Common.{sym, ap, ◌∙◌}
use Rattle.std.specs.Option.{option_map}
use Rattle.std.specs.Arc.{arc_value}
use Rattle.lb_cat.specs.Catalog.{policy_named}
use Rattle.lb_cat.specs.Stamps.{Kept, bare, bare_policy}
use Rattle.lb_cat.proofs.Bare.{policies_are_bare, mapped_twice}
use Rattle.lb_cat.proofs.kept.Catalog.policy_called.Goals as goal

pub returns-clause-bare : goal.returns-clause-bare
returns-clause-bare c =
    let S : Kept = record { tables = c.self.inside.tables; policies = c.self.inside.policies; components = c.self.inside.components; users = c.self.inside.users; roles = c.self.inside.roles } in
    mapped_twice bare_policy (λ r. arc_value r.now) c.spelled.result
    ∙ ap (option_map bare_policy) c.spelled.ensures
    ∙ sym ((policies_are_bare S).found c.args.name.now)
    ∙ ap (λ K. policy_named (bare K) c.args.name.now) c.self.view_is
