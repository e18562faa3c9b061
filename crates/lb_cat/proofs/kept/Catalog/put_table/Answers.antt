use Rattle.std.proofs.Common.{ap, ◌∙◌, map}
use Rattle.std.specs.Arc.{arc_value}
use Rattle.std.proofs.lemmas.Result.{on_ok_weaker}
use Rattle.lb_cat.specs.Catalog.{put_table}
use Rattle.lb_cat.specs.Stamps.{Kept, bare, bare_table}
use Rattle.lb_cat.proofs.Bare.{tables_are_bare}
use Rattle.lb_cat.proofs.kept.Catalog.put_table.Goals as goal

pub returns-clause-bare : goal.returns-clause-bare
returns-clause-bare c =
    let S : Kept = record { tables = c.self.inside.tables; policies = c.self.inside.policies; components = c.self.inside.components; users = c.self.inside.users; roles = c.self.inside.roles } in
    on_ok_weaker c.put.result (λ h. ap (λ xs. record (bare S) { tables = map bare_table xs }) h ∙ (tables_are_bare S).put (arc_value c.args.rec) ∙ ap (λ K. put_table (bare_table (arc_value c.args.rec)) (bare K)) c.self.view_is) c.put.ensures.ok
