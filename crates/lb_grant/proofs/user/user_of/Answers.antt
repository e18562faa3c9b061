use Rattle.std.proofs.Common.{ap, ◌∙◌}
use Rattle.std.specs.Arc.{arc_value}
use Rattle.lb_cat.specs.declared.catalog.UserRec.{UserRec}
use Rattle.lb_grant.proofs.Found.{user_found}
use Rattle.lb_grant.proofs.user.user_of.Goals as goal

pub returns-in_ok-copy-in-Some-clause-name : goal.returns-in_ok-copy-in-Some-clause-name
returns-in_ok-copy-in-Some-clause-name c =
    ap (λ (u : UserRec). u.name) (c.in_ok-copy-in-Some.ensures ∙ c.deref.ensures)
    ∙ user_found c.args.catalog.now c.args.name.now (arc_value c.in-Some.user.now) c.in-Some.ensures.kept
