use Rattle.std.proofs.Common.{subst}
use Rattle.lb_base.specs.declared.key.Key.TheVariants as keys
use Rattle.lb_cat.specs.Stamps.{marked, stamped_table, stamped_policy, stamped_user, IsAlike, Kept}
use Rattle.lb_cat.proofs.Marked.{marked_list, marked_components}
use Rattle.lb_cat.proofs.kept.Catalog.marked.Goals as goal

pub returns : goal.returns
returns c =
    let old : Kept = record { tables = c.self.inside.tables; policies = c.self.inside.policies; components = c.self.inside.components; users = c.self.inside.users; roles = c.self.inside.roles } in
    let new : Kept = record { tables = c.in_ok-tables.tables; policies = c.in_ok-policies.policies; components = c.in_ok-components.components; users = c.in_ok-users.users; roles = c.in_ok-roles.roles } in
    subst (λ K. IsAlike new (marked c.args.keys.now c.args.stamp K)) c.self.view_is (record {
      tables = marked_list (λ t. keys.Table t.name) (stamped_table c.args.stamp) c.args.keys.now old.tables new.tables c.in_ok-tables.ensures;
      policies = marked_list (λ p. keys.Policy p.name) (stamped_policy c.args.stamp) c.args.keys.now old.policies new.policies c.in_ok-policies.ensures;
      components = marked_components c.args.stamp c.args.keys.now old.components new.components c.in_ok-components.ensures;
      users = marked_list (λ u. keys.User u.name) (stamped_user c.args.stamp) c.args.keys.now old.users new.users c.in_ok-users.ensures;
      roles = c.in_ok-roles.ensures;
    })
