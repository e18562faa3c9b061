use Rattle.std.proofs.Common.{ap, ◌∙◌}
use Rattle.std.specs.Arc.{arc_value}
use Rattle.lb_cat.specs.Catalog.{is_role, has_role}
use Rattle.lb_cat.specs.Stamps.{bare, has_kept_role}
use Rattle.lb_cat.proofs.Bare.{found_any}
use Rattle.lb_cat.proofs.kept.Catalog.role.Goals as goal

pub returns-clause-kept : goal.returns-clause-kept
returns-clause-kept c = found_any (λ r. arc_value r.now) (is_role c.args.name.now) c.named.result c.self.inside.roles c.named.ensures ∙ ap (λ K. has_kept_role K c.args.name.now) c.self.view_is

pub returns-clause-bare : goal.returns-clause-bare
returns-clause-bare c = found_any (λ r. arc_value r.now) (is_role c.args.name.now) c.named.result c.self.inside.roles c.named.ensures ∙ ap (λ K. has_role (bare K) c.args.name.now) c.self.view_is
