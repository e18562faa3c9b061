-- A change of a sound catalogue leaves a sound one.
use Rattle.std.proofs.Common.{refl, ℕ, List, Ok, Err}
use Rattle.lb_stmt.specs.declared.change.Change.{Change}
use Rattle.lb_stmt.specs.declared.change.Change.TheVariants as changes
use Rattle.lb_rows.specs.Tables.{Tables}
use Rattle.lb_cat.specs.Catalog.{Cat}
use Rattle.lb_alter.specs.Change.{attempt}
use Rattle.lb_alter.specs.Laws.{StaysSound, IsAsRead}
use Rattle.lb_alter.specs.Refusing.{Changed, settled}
use Rattle.lb_cat.specs.OrRefused.{OrRefused}
use Rattle.lb_alter.specs.Sound.{IsSound}
use Rattle.lb_alter.specs.Steady.{IsSteady}
use Rattle.lb_alter.specs.Stored.{StoredRules}
use Rattle.lb_alter.proofs.SoundAlters.{activate_sound, grant_privileges_sound, revoke_privileges_sound, switch_permission_sound, switch_mask_sound, drop_permission_sound, drop_mask_sound}
use Rattle.lb_alter.proofs.SoundColumns.{add_policy_sound, add_column_sound, secure_column_sound, unsecure_column_sound}
use Rattle.lb_alter.proofs.SoundCreates.{create_table_sound}
use Rattle.lb_alter.proofs.SoundDrops.{drop_policy_sound, drop_table_sound}
use Rattle.lb_alter.proofs.SoundGrants.{grant_exemption_sound, revoke_exemption_sound, grant_label_sound, revoke_label_sound}
use Rattle.lb_alter.proofs.SoundKinds.{create_role_sound, drop_role_sound, create_component_sound, drop_component_sound, create_policy_sound}
use Rattle.lb_alter.proofs.SoundLabels.{create_label_sound, drop_label_sound}
use Rattle.lb_alter.proofs.SoundMasks.{create_mask_sound}
use Rattle.lb_alter.proofs.SoundStored.{create_permission_sound}
use Rattle.lb_alter.proofs.SoundUsers.{LeavesSound, grant_secadm_sound, revoke_secadm_sound, grant_role_sound, revoke_role_sound}

settles : (K : StoredRules) (C : Cat) (T : Tables) → IsSound K C → (m : OrRefused Changed) → LeavesSound K m → IsSound K (settled C T m).cat
settles K C T s (Ok d) h = h.sound d refl
settles K C T s (Err r) h = s

attempts : (K : StoredRules) → IsSteady K → (C : Cat) (T : Tables) (user : List ℕ) (s : Change) → IsAsRead s → IsSound K C → LeavesSound K (attempt K C T user s)
attempts K steady C T user (changes.GrantLabel l n access) r s = grant_label_sound K steady C T s user l n access
attempts K steady C T user (changes.RevokeLabel l n) r s = revoke_label_sound K steady C T s user l n
attempts K steady C T user (changes.GrantExemption rule policy n) r s = grant_exemption_sound K steady C T s user rule policy n
attempts K steady C T user (changes.RevokeExemption rule policy n) r s = revoke_exemption_sound K steady C T s user rule policy n
attempts K steady C T user (changes.GrantRole role n) r s = grant_role_sound K steady C T s user role n
attempts K steady C T user (changes.RevokeRole role n) r s = revoke_role_sound K steady C T s user role n
attempts K steady C T user (changes.GrantSecadm n) r s = grant_secadm_sound K steady C T s user n
attempts K steady C T user (changes.RevokeSecadm n) r s = revoke_secadm_sound K steady C T s user n
attempts K steady C T user (changes.GrantPrivileges privileges n to) r s = grant_privileges_sound K steady C T s user privileges n to
attempts K steady C T user (changes.RevokePrivileges privileges n from) r s = revoke_privileges_sound K steady C T s user privileges n from
attempts K steady C T user (changes.Activate n first second) r s = activate_sound K steady C T s user n first second
attempts K steady C T user (changes.SwitchPermission n w) r s = switch_permission_sound K steady C T s user n w
attempts K steady C T user (changes.SwitchMask n w) r s = switch_mask_sound K steady C T s user n w
attempts K steady C T user (changes.DropPermission n) r s = drop_permission_sound K steady C T s user n
attempts K steady C T user (changes.DropMask n) r s = drop_mask_sound K steady C T s user n
attempts K steady C T user (changes.AddPolicy n policy) r s = add_policy_sound K steady C T s user n policy
attempts K steady C T user (changes.SecureColumn n column label) r s = secure_column_sound K steady C T s user n column label
attempts K steady C T user (changes.UnsecureColumn n column) r s = unsecure_column_sound K steady C T s user n column
attempts K steady C T user (changes.CreateRole n) r s = create_role_sound K steady C T s user n
attempts K steady C T user (changes.DropRole n) r s = drop_role_sound K steady C T s user n
attempts K steady C T user (changes.CreateComponent n d) r s = create_component_sound K steady C T s user n d
attempts K steady C T user (changes.DropComponent n) r s = drop_component_sound K steady C T s user n
attempts K steady C T user (changes.CreatePolicy d) r s = create_policy_sound K steady C T s user d r.0 r.1
attempts K steady C T user (changes.DropPolicy n) r s = drop_policy_sound K steady C T s n user
attempts K steady C T user (changes.DropTable n) r s = drop_table_sound K steady C T s n user
attempts K steady C T user (changes.AddColumn n column ty) r s = add_column_sound K steady C T s user n column ty
attempts K steady C T user (changes.CreateLabel l parts) r s = create_label_sound K steady C T s user l parts
attempts K steady C T user (changes.DropLabel l) r s = drop_label_sound K steady C T s user l
attempts K steady C T user (changes.CreatePermission d) r s = create_permission_sound K steady C T s user d
attempts K steady C T user (changes.CreateTable n es o) r s = create_table_sound K steady C T s user n es o r
attempts K steady C T user (changes.CreateMask d) r s = create_mask_sound K steady C T s user d

pub stays_sound : (K : StoredRules) → StaysSound K
stays_sound K steady C T user s r i = settles K C T i (attempt K C T user s) (attempts K steady C T user s r i)
