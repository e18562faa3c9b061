use Rattle.std.proofs.Common.{sym, ap, ◌∙◌}
use Rattle.lb_base.specs.declared.key.Key.TheVariants as keys
use Rattle.lb_cat.specs.Stamps.{look}
use Rattle.lb_cat.proofs.kept.Catalog.look.Goals as goal

pub returns-in-Table : goal.returns-in-Table
returns-in-Table c = c.stamp.ensures ∙ ap (λ K. look K (keys.Table c.in-Table.name)) c.self.view_is ∙ ap (look c.args.self.now) (sym c.in-Table.is)

pub returns-in-Rows : goal.returns-in-Rows
returns-in-Rows c = c.stamp-in-Rows.ensures ∙ ap (λ K. look K (keys.Rows c.in-Rows.name)) c.self.view_is ∙ ap (look c.args.self.now) (sym c.in-Rows.is)

pub returns-in-Policy : goal.returns-in-Policy
returns-in-Policy c = c.stamp-in-Policy.ensures ∙ ap (λ K. look K (keys.Policy c.in-Policy.name)) c.self.view_is ∙ ap (look c.args.self.now) (sym c.in-Policy.is)

pub returns-in-Component : goal.returns-in-Component
returns-in-Component c = c.stamp-in-Component.ensures ∙ ap (λ K. look K (keys.Component c.in-Component.name)) c.self.view_is ∙ ap (look c.args.self.now) (sym c.in-Component.is)

pub returns-in-User : goal.returns-in-User
returns-in-User c = c.stamp-in-User.ensures ∙ ap (λ K. look K (keys.User c.in-User.name)) c.self.view_is ∙ ap (look c.args.self.now) (sym c.in-User.is)
