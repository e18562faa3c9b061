-- Each change keeps that the DATE literals of permissions and masks are days, and that rows stand under the names of tables alone, once under each, statement by statement.
use Rattle.std.proofs.Common.{refl, ℕ, true, false, not, ◌||◌, List, [], ◌∷◌, map, length, Ok, Err, is_some}
use Rattle.std.specs.Prelude.{find, filter, option_map, nat_lt}
use Rattle.lb_base.specs.declared.key.Key.TheVariants as keys
use Rattle.lb_label.specs.Component.{empty_component}
use Rattle.lb_stmt.specs.declared.change.Access.{Access}
use Rattle.lb_stmt.specs.declared.change.Change.{Change}
use Rattle.lb_stmt.specs.declared.change.ComponentDef.{ComponentDef}
use Rattle.lb_stmt.specs.declared.change.Exempted.{Exempted}
use Rattle.lb_stmt.specs.declared.change.Grantee.{Grantee}
use Rattle.lb_stmt.specs.declared.change.LabelName.{LabelName}
use Rattle.lb_stmt.specs.declared.change.LabelPart.{LabelPart}
use Rattle.lb_stmt.specs.declared.change.PolicyDef.{PolicyDef}
use Rattle.lb_stmt.specs.declared.change.Privilege.{Privilege}
use Rattle.lb_stmt.specs.declared.change.Change.TheVariants as changes
use Rattle.lb_stmt.specs.declared.change.Grantee.TheVariants as grantees
use Rattle.lb_cat.specs.declared.refusal.Refusal.TheVariants as refusals
use Rattle.lb_cat.specs.declared.refusal.LimitOf.TheVariants as limits
use Rattle.lb_alter.specs.Change.{attempt, change}
use Rattle.lb_alter.specs.ChangeGrant.{create_role, drop_role_of, exempting, grant_exemption, grant_label, grant_privileges, grant_role, grant_secadm, grant_to, has_role_of, held_refusal, mismatch, reads, revoke_exemption, revoke_from, revoke_label, revoke_privileges, revoke_role, revoke_secadm, the_role, user_or_new, with_label, with_role, with_secadm, with_user_privileges, without_label, without_role, writes}
use Rattle.lb_alter.specs.ChangeLabel.{create_label, drop_label, holds, parts_refusal, secures_with, user_name}
use Rattle.lb_alter.specs.ChangePolicy.{components_refusal, create_component, create_policy, drop_component_of, drop_policy_of, elements_of, first_label, has_component, has_policy, kind_of_definition, policy_name, table_name, with_elements}
use Rattle.lb_alter.specs.ChangeTable.{user_key}
use Rattle.lb_alter.specs.Refusing.{in_use, Changed, secadm, settled, when}
use Rattle.lb_cat.specs.OrRefused.{OrRefused}
use Rattle.lb_cat.specs.Catalog.{Cat, Table, component_named, has_role, label_named, policy_named}
use Rattle.lb_cat.specs.Holdings.{has_holding_of, holding_of, holds_label, with_exemptions, with_holding, without_exemptions}
use Rattle.lb_cat.specs.declared.catalog.Holding.{Holding}
use Rattle.lb_rows.specs.Tables.{Tables}
use Rattle.lb_alter.specs.Stored.{calls_label, calls_policy}
use Rattle.lb_fits.specs.Dated.{StoresDays}
use Rattle.lb_spoken.specs.Laws.{DefinesDays}
use Rattle.lb_alter.specs.Naming.{stored_rules}
use Rattle.lb_standing.proofs.Kept.{Kept, LeavesKept, test_kept, done_kept, found_kept, made_kept, owner_kept, alters_kept, grants_kept, revokes_kept}
use Rattle.lb_standing.proofs.ChangedTables.{named, create_table_kept, drop_table_kept, add_column_kept, add_policy_kept, secure_column_kept, unsecure_column_kept, activate_kept, create_permission_kept, create_mask_kept, switch_permission_kept, switch_mask_kept, drop_permission_kept, drop_mask_kept}

module _ (C : Cat) (T : Tables) (f : Kept C.tables T) (user : List ℕ) where
  -- ---- components, policies and labels

  create_component_kept : (n : List ℕ) (d : ComponentDef) → LeavesKept (create_component C T user n d)
  create_component_kept n d =
      test_kept (secadm C user) _ (λ _. test_kept (when (is_some (component_named C n)) (refusals.Exists n)) _ (λ _. made_kept (with_elements 0 (empty_component (kind_of_definition d)) (elements_of d)) _
      (λ c. done_kept _ T (keys.Component n ∷ []) f)))

  drop_component_kept : (n : List ℕ) → LeavesKept (drop_component_of C T user n)
  drop_component_kept n =
      test_kept (secadm C user) _ (λ _. found_kept n (component_named C n) _ (λ c _. test_kept (in_use n (option_map policy_name (find (has_component n) C.policies))) _
      (λ _. done_kept _ T (keys.Component n ∷ []) f)))

  create_policy_kept : (d : PolicyDef) → LeavesKept (create_policy C T user d)
  create_policy_kept d =
      test_kept (secadm C user) _ (λ _. test_kept (when (is_some (policy_named C d.name)) (refusals.Exists d.name)) _ (λ _. test_kept (when (nat_lt 16 (length d.components)) (refusals.Limit limits.Components 16)) _
      (λ _. test_kept (components_refusal C [] d.components) _ (λ _. done_kept _ T (keys.Policy d.name ∷ []) f))))

  drop_policy_kept : (n : List ℕ) → LeavesKept (drop_policy_of C T user n)
  drop_policy_kept n =
      test_kept (secadm C user) _ (λ _. found_kept n (policy_named C n) _ (λ p _. test_kept (in_use n (option_map table_name (find (λ t. has_policy n t || calls_policy n t) C.tables))) _
      (λ _. test_kept (in_use n (first_label p.labels)) _
      (λ _. done_kept _ T (keys.Policy n ∷ map user_key (filter (has_holding_of n) C.users)) f))))

  create_label_kept : (l : LabelName) (xs : List LabelPart) → LeavesKept (create_label C T user l xs)
  create_label_kept l xs =
      test_kept (secadm C user) _ (λ _. found_kept l.policy (policy_named C l.policy) _ (λ p e. test_kept (when (is_some (label_named p l.label)) (refusals.Exists l.label)) _
      (λ _. test_kept (parts_refusal p [] xs) _ (λ _. done_kept _ T (keys.Policy p.name ∷ []) f))))

  drop_label_kept : (l : LabelName) → LeavesKept (drop_label C T user l)
  drop_label_kept l =
      test_kept (secadm C user) _ (λ _. found_kept l.policy (policy_named C l.policy) _ (λ p e. found_kept l.label (label_named p l.label) _ (λ x _.
      test_kept (in_use l.label (option_map user_name (find (holds l) C.users))) _ (λ _. test_kept (in_use l.label (option_map table_name (find (λ t. secures_with l t || calls_label l.policy l.label t) C.tables))) _
      (λ _. done_kept _ T (keys.Policy p.name ∷ []) f)))))

  -- ---- grants

  grant_label_kept : (l : LabelName) (n : List ℕ) (access : Access) → LeavesKept (grant_label C T user l n access)
  grant_label_kept l n access =
      test_kept (secadm C user) _ (λ _. found_kept l.policy (policy_named C l.policy) _ (λ p _. found_kept l.label (label_named p l.label) _ (λ x _.
      let h : Holding = holding_of l.policy (user_or_new C n) in
      test_kept (held_refusal (reads access) l.label h.read) _ (λ _. test_kept (held_refusal (writes access) l.label h.write) _ (λ _. test_kept (mismatch p (with_label access l.label h)) _
      (λ _. grants_kept C T f n (with_holding (with_label access l.label h))))))))

  revoke_label_kept : (l : LabelName) (n : List ℕ) → LeavesKept (revoke_label C T user l n)
  revoke_label_kept l n =
      test_kept (secadm C user) _ (λ _. found_kept l.policy (policy_named C l.policy) _ (λ p _. found_kept l.label (label_named p l.label) _ (λ x _.
      let h : Holding = holding_of l.policy (user_or_new C n) in
      test_kept (when (not (holds_label l.label h)) (refusals.Unknown l.label)) _ (λ _. revokes_kept C T f n (with_holding (without_label l.label h))))))

  grant_exemption_kept : (rule : Exempted) (policy n : List ℕ) → LeavesKept (grant_exemption C T user rule policy n)
  grant_exemption_kept rule policy n = test_kept (secadm C user) _ (λ _. found_kept policy (policy_named C policy) _ (λ p _. grants_kept C T f n (exempting with_exemptions rule policy)))

  revoke_exemption_kept : (rule : Exempted) (policy n : List ℕ) → LeavesKept (revoke_exemption C T user rule policy n)
  revoke_exemption_kept rule policy n = test_kept (secadm C user) _ (λ _. found_kept policy (policy_named C policy) _ (λ p _. revokes_kept C T f n (exempting without_exemptions rule policy)))

  create_role_kept : (n : List ℕ) → LeavesKept (create_role C T user n)
  create_role_kept n =
      test_kept (secadm C user) _ (λ _. test_kept (when (has_role C n) (refusals.Exists n)) _ (λ _. done_kept _ T [] f))

  drop_role_kept : (n : List ℕ) → LeavesKept (drop_role_of C T user n)
  drop_role_kept n =
      test_kept (secadm C user) _ (λ _. test_kept (the_role C n) _ (λ _. test_kept (in_use n (option_map user_name (find (has_role_of n) C.users))) _
      (λ _. done_kept _ T [] f)))

  grant_role_kept : (role n : List ℕ) → LeavesKept (grant_role C T user role n)
  grant_role_kept role n = test_kept (secadm C user) _ (λ _. test_kept (the_role C role) _ (λ _. grants_kept C T f n (with_role role)))

  revoke_role_kept : (role n : List ℕ) → LeavesKept (revoke_role C T user role n)
  revoke_role_kept role n = test_kept (secadm C user) _ (λ _. test_kept (the_role C role) _ (λ _. revokes_kept C T f n (without_role role)))

  grant_secadm_kept : (n : List ℕ) → LeavesKept (grant_secadm C T user n)
  grant_secadm_kept n = test_kept (secadm C user) _ (λ _. grants_kept C T f n (with_secadm true))

  revoke_secadm_kept : (n : List ℕ) → LeavesKept (revoke_secadm C T user n)
  revoke_secadm_kept n = test_kept (secadm C user) _ (λ _. revokes_kept C T f n (with_secadm false))

  grant_to_kept : (t : Table) → StoresDays t → (ps : List Privilege) (to : Grantee) → LeavesKept (grant_to C T t ps to)
  grant_to_kept t e ps (grantees.User n) = grants_kept C T f n (with_user_privileges true ps t.name)
  grant_to_kept t e ps grantees.Public = alters_kept C T f _ e

  revoke_from_kept : (t : Table) → StoresDays t → (ps : List Privilege) (from : Grantee) → LeavesKept (revoke_from C T t ps from)
  revoke_from_kept t e ps (grantees.User n) = revokes_kept C T f n (with_user_privileges false ps t.name)
  revoke_from_kept t e ps grantees.Public = alters_kept C T f _ e

  grant_privileges_kept : (ps : List Privilege) (n : List ℕ) (to : Grantee) → LeavesKept (grant_privileges C T user ps n to)
  grant_privileges_kept ps n to = owner_kept C user n _ (λ t e. grant_to_kept t (named C T f user n t e) ps to)

  revoke_privileges_kept : (ps : List Privilege) (n : List ℕ) (from : Grantee) → LeavesKept (revoke_privileges C T user ps n from)
  revoke_privileges_kept ps n from = owner_kept C user n _ (λ t e. revoke_from_kept t (named C T f user n t e) ps from)

  attempt_kept : (c : Change) → DefinesDays c → LeavesKept (attempt stored_rules C T user c)
  attempt_kept (changes.CreateTable n es policy) _ = create_table_kept C T f user n es policy
  attempt_kept (changes.DropTable n) _ = drop_table_kept C T f user n
  attempt_kept (changes.AddColumn n column ty) _ = add_column_kept C T f user n column ty
  attempt_kept (changes.AddPolicy n policy) _ = add_policy_kept C T f user n policy
  attempt_kept (changes.SecureColumn n column label) _ = secure_column_kept C T f user n column label
  attempt_kept (changes.UnsecureColumn n column) _ = unsecure_column_kept C T f user n column
  attempt_kept (changes.Activate n first second) _ = activate_kept C T f user n first second
  attempt_kept (changes.CreatePermission d) days = create_permission_kept C T f user d days
  attempt_kept (changes.CreateMask d) days = create_mask_kept C T f user d days
  attempt_kept (changes.SwitchPermission n s) _ = switch_permission_kept C T f user n s
  attempt_kept (changes.SwitchMask n s) _ = switch_mask_kept C T f user n s
  attempt_kept (changes.DropPermission n) _ = drop_permission_kept C T f user n
  attempt_kept (changes.DropMask n) _ = drop_mask_kept C T f user n
  attempt_kept (changes.CreateComponent n d) _ = create_component_kept n d
  attempt_kept (changes.DropComponent n) _ = drop_component_kept n
  attempt_kept (changes.CreatePolicy d) _ = create_policy_kept d
  attempt_kept (changes.DropPolicy n) _ = drop_policy_kept n
  attempt_kept (changes.CreateLabel l parts) _ = create_label_kept l parts
  attempt_kept (changes.DropLabel l) _ = drop_label_kept l
  attempt_kept (changes.GrantLabel l n access) _ = grant_label_kept l n access
  attempt_kept (changes.RevokeLabel l n) _ = revoke_label_kept l n
  attempt_kept (changes.GrantExemption rule policy n) _ = grant_exemption_kept rule policy n
  attempt_kept (changes.RevokeExemption rule policy n) _ = revoke_exemption_kept rule policy n
  attempt_kept (changes.CreateRole n) _ = create_role_kept n
  attempt_kept (changes.DropRole n) _ = drop_role_kept n
  attempt_kept (changes.GrantRole role n) _ = grant_role_kept role n
  attempt_kept (changes.RevokeRole role n) _ = revoke_role_kept role n
  attempt_kept (changes.GrantSecadm n) _ = grant_secadm_kept n
  attempt_kept (changes.RevokeSecadm n) _ = revoke_secadm_kept n
  attempt_kept (changes.GrantPrivileges privileges n to) _ = grant_privileges_kept privileges n to
  attempt_kept (changes.RevokePrivileges privileges n from) _ = revoke_privileges_kept privileges n from

settled_kept : (C : Cat) (T : Tables) → Kept C.tables T → (m : OrRefused Changed) → LeavesKept m → Kept (settled C T m).cat.tables (settled C T m).tables
settled_kept C T f (Ok d) h = h.kept d refl
settled_kept C T f (Err r) h = f

pub changes_kept : (C : Cat) (T : Tables) → Kept C.tables T → (user : List ℕ) (c : Change) → DefinesDays c → Kept (change stored_rules C T user c).cat.tables (change stored_rules C T user c).tables
changes_kept C T f user c days = settled_kept C T f (attempt stored_rules C T user c) (attempt_kept C T f user c days)
