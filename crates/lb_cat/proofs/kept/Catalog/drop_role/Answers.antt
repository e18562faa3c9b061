use Rattle.std.proofs.Common.{ap, ◌∙◌}
use Rattle.lb_cat.specs.Catalog.{drop_role}
use Rattle.lb_cat.specs.Stamps.{Kept, bare}
use Rattle.lb_cat.proofs.Bare.{roles_are_bare}
use Rattle.lb_cat.proofs.kept.Catalog.drop_role.Goals as goal

pub returns-clause-bare : goal.returns-clause-bare
returns-clause-bare c =
    let S : Kept = record { tables = c.self.inside.tables; policies = c.self.inside.policies; components = c.self.inside.components; users = c.self.inside.users; roles = c.self.inside.roles } in
    ap (λ xs. record (bare S) { roles = xs }) c.remove.ensures ∙ (roles_are_bare S).dropped c.args.name.now ∙ ap (λ K. drop_role c.args.name.now (bare K)) c.self.view_is
