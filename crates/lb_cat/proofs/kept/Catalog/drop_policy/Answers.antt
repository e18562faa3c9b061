use Rattle.std.proofs.Common.{ap, ◌∙◌, map}
use Rattle.lb_cat.specs.Catalog.{drop_policy}
use Rattle.lb_cat.specs.Stamps.{Kept, bare, bare_policy}
use Rattle.lb_cat.proofs.Bare.{policies_are_bare}
use Rattle.lb_cat.proofs.kept.Catalog.drop_policy.Goals as goal

pub returns-clause-bare : goal.returns-clause-bare
returns-clause-bare c =
    let S : Kept = record { tables = c.self.inside.tables; policies = c.self.inside.policies; components = c.self.inside.components; users = c.self.inside.users; roles = c.self.inside.roles } in
    ap (λ xs. record (bare S) { policies = map bare_policy xs }) c.remove.ensures ∙ (policies_are_bare S).dropped c.args.name.now ∙ ap (λ K. drop_policy c.args.name.now (bare K)) c.self.view_is
