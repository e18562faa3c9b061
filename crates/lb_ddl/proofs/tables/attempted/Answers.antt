use Rattle.std.proofs.Common.{sym, subst, List}
use Rattle.lb_stmt.specs.declared.change.Change.{Change}
use Rattle.lb_stmt.specs.declared.change.Element.{Element}
use Rattle.lb_stmt.specs.declared.change.Privilege.{Privilege}
use Rattle.lb_cat.specs.Stamps.{Kept, bare}
use Rattle.lb_rows.specs.Stamped.{rows_only}
use Rattle.lb_rows.specs.Tables.{Tables}
use Rattle.lb_alter.specs.Change.{attempt}
use Rattle.lb_alter.specs.ChangeGrant.{grant_privileges, revoke_privileges}
use Rattle.lb_alter.specs.ChangeTable.{create_table}
use Rattle.lb_alter.specs.Naming.{stored_rules}
use Rattle.lb_changed.specs.Made.{Makes}
use Rattle.lb_ddl.proofs.tables.attempted.Goals as goal

pub returns-in-CreateTable : goal.returns-in-CreateTable
returns-in-CreateTable c =
    let K : Kept = c.args.catalog.now in
    let T : Tables = rows_only c.args.tables.now in
    subst (λ (s : Change). Makes K T (attempt stored_rules (bare K) T c.args.user.now s) c.create_table.result) (sym c.in-CreateTable.is)
    (subst (λ (es : List Element). Makes K T (create_table (bare K) T c.args.user.now c.in-CreateTable.name es c.in-CreateTable.policy) c.create_table.result) c.as_slice.ensures (c.create_table.ensures T))

pub returns-in-DropTable : goal.returns-in-DropTable
returns-in-DropTable c =
    let K : Kept = c.args.catalog.now in
    let T : Tables = rows_only c.args.tables.now in
    subst (λ (s : Change). Makes K T (attempt stored_rules (bare K) T c.args.user.now s) c.drop_table.result) (sym c.in-DropTable.is)
    (c.drop_table.ensures T)

pub returns-in-AddPolicy : goal.returns-in-AddPolicy
returns-in-AddPolicy c =
    let K : Kept = c.args.catalog.now in
    let T : Tables = rows_only c.args.tables.now in
    subst (λ (s : Change). Makes K T (attempt stored_rules (bare K) T c.args.user.now s) c.add_policy.result) (sym c.in-AddPolicy.is)
    (c.add_policy.ensures T)

pub returns-in-SecureColumn : goal.returns-in-SecureColumn
returns-in-SecureColumn c =
    let K : Kept = c.args.catalog.now in
    let T : Tables = rows_only c.args.tables.now in
    subst (λ (s : Change). Makes K T (attempt stored_rules (bare K) T c.args.user.now s) c.secure_column.result) (sym c.in-SecureColumn.is)
    (c.secure_column.ensures T)

pub returns-in-UnsecureColumn : goal.returns-in-UnsecureColumn
returns-in-UnsecureColumn c =
    let K : Kept = c.args.catalog.now in
    let T : Tables = rows_only c.args.tables.now in
    subst (λ (s : Change). Makes K T (attempt stored_rules (bare K) T c.args.user.now s) c.unsecure_column.result) (sym c.in-UnsecureColumn.is)
    (c.unsecure_column.ensures T)

pub returns-in-GrantPrivileges : goal.returns-in-GrantPrivileges
returns-in-GrantPrivileges c =
    let K : Kept = c.args.catalog.now in
    let T : Tables = rows_only c.args.tables.now in
    subst (λ (s : Change). Makes K T (attempt stored_rules (bare K) T c.args.user.now s) c.grant_privileges.result) (sym c.in-GrantPrivileges.is)
    (subst (λ (ps : List Privilege). Makes K T (grant_privileges (bare K) T c.args.user.now ps c.in-GrantPrivileges.table c.in-GrantPrivileges.to) c.grant_privileges.result) c.as_slice-in-GrantPrivileges.ensures (c.grant_privileges.ensures T))

pub returns-in-RevokePrivileges : goal.returns-in-RevokePrivileges
returns-in-RevokePrivileges c =
    let K : Kept = c.args.catalog.now in
    let T : Tables = rows_only c.args.tables.now in
    subst (λ (s : Change). Makes K T (attempt stored_rules (bare K) T c.args.user.now s) c.revoke_privileges.result) (sym c.in-RevokePrivileges.is)
    (subst (λ (ps : List Privilege). Makes K T (revoke_privileges (bare K) T c.args.user.now ps c.in-RevokePrivileges.table c.in-RevokePrivileges.from) c.revoke_privileges.result) c.as_slice-in-RevokePrivileges.ensures (c.revoke_privileges.ensures T))
