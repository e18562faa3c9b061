-- What a change of the catalogue answers and leaves.
use Rattle.std.specs.Prelude.{ℕ, List}
use Rattle.lb_stmt.specs.declared.change.Change.{Change}
use Rattle.lb_stmt.specs.declared.change.Change.TheVariants as changes
use Rattle.lb_rows.specs.Tables.{Tables}
use Rattle.lb_cat.specs.Catalog.{Cat}
use Rattle.lb_alter.specs.AlterTable.{add_column, add_policy, secure_column, unsecure_column}
use Rattle.lb_alter.specs.ChangeControl.{activate, create_permission, create_mask, switch_permission, switch_mask, drop_permission, drop_mask}
use Rattle.lb_alter.specs.ChangeGrant.{grant_label, revoke_label, grant_exemption, revoke_exemption, create_role, drop_role_of, grant_role, revoke_role, grant_secadm, revoke_secadm, grant_privileges, revoke_privileges}
use Rattle.lb_alter.specs.ChangeLabel.{create_label, drop_label}
use Rattle.lb_alter.specs.ChangePolicy.{create_component, drop_component_of, create_policy, drop_policy_of}
use Rattle.lb_alter.specs.ChangeTable.{create_table, drop_table_of}
use Rattle.lb_alter.specs.Refusing.{Changed, settled}
use Rattle.lb_cat.specs.OrRefused.{OrRefused}
use Rattle.lb_alter.specs.Stored.{StoredRules}

-- what the user's statement makes of the catalogue and the rows, or its first refusal
abbrev pub attempt : StoredRules → Cat → Tables → List ℕ → Change → OrRefused Changed
attempt K C T user (changes.CreateTable n es policy) = create_table C T user n es policy
attempt K C T user (changes.DropTable n) = drop_table_of C T user n
attempt K C T user (changes.AddColumn n column ty) = add_column C T user n column ty
attempt K C T user (changes.AddPolicy n policy) = add_policy C T user n policy
attempt K C T user (changes.SecureColumn n column label) = secure_column C T user n column label
attempt K C T user (changes.UnsecureColumn n column) = unsecure_column C T user n column
attempt K C T user (changes.Activate n first second) = activate C T user n first second
attempt K C T user (changes.CreatePermission d) = create_permission K C T user d
attempt K C T user (changes.CreateMask d) = create_mask K C T user d
attempt K C T user (changes.SwitchPermission n s) = switch_permission C T user n s
attempt K C T user (changes.SwitchMask n s) = switch_mask C T user n s
attempt K C T user (changes.DropPermission n) = drop_permission C T user n
attempt K C T user (changes.DropMask n) = drop_mask C T user n
attempt K C T user (changes.CreateComponent n d) = create_component C T user n d
attempt K C T user (changes.DropComponent n) = drop_component_of C T user n
attempt K C T user (changes.CreatePolicy d) = create_policy C T user d
attempt K C T user (changes.DropPolicy n) = drop_policy_of C T user n
attempt K C T user (changes.CreateLabel l parts) = create_label C T user l parts
attempt K C T user (changes.DropLabel l) = drop_label C T user l
attempt K C T user (changes.GrantLabel l n access) = grant_label C T user l n access
attempt K C T user (changes.RevokeLabel l n) = revoke_label C T user l n
attempt K C T user (changes.GrantExemption rule policy n) = grant_exemption C T user rule policy n
attempt K C T user (changes.RevokeExemption rule policy n) = revoke_exemption C T user rule policy n
attempt K C T user (changes.CreateRole n) = create_role C T user n
attempt K C T user (changes.DropRole n) = drop_role_of C T user n
attempt K C T user (changes.GrantRole role n) = grant_role C T user role n
attempt K C T user (changes.RevokeRole role n) = revoke_role C T user role n
attempt K C T user (changes.GrantSecadm n) = grant_secadm C T user n
attempt K C T user (changes.RevokeSecadm n) = revoke_secadm C T user n
attempt K C T user (changes.GrantPrivileges privileges n to) = grant_privileges C T user privileges n to
attempt K C T user (changes.RevokePrivileges privileges n from) = revoke_privileges C T user privileges n from

-- what the user's statement answers and leaves
abbrev pub change : StoredRules → Cat → Tables → List ℕ → Change → Changed
change K C T user s = settled C T (attempt K C T user s)
