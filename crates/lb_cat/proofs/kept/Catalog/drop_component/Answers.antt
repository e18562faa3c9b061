use Rattle.std.proofs.Common.{ap, ◌∙◌, map}
use Rattle.lb_cat.specs.Catalog.{drop_component}
use Rattle.lb_cat.specs.Stamps.{Kept, bare, bare_component}
use Rattle.lb_cat.proofs.Bare.{components_are_bare}
use Rattle.lb_cat.proofs.kept.Catalog.drop_component.Goals as goal

pub returns-clause-bare : goal.returns-clause-bare
returns-clause-bare c =
    let S : Kept = record { tables = c.self.inside.tables; policies = c.self.inside.policies; components = c.self.inside.components; users = c.self.inside.users; roles = c.self.inside.roles } in
    ap (λ xs. record (bare S) { components = map bare_component xs }) c.remove.ensures ∙ (components_are_bare S).dropped c.args.name.now ∙ ap (λ K. drop_component c.args.name.now (bare K)) c.self.view_is
