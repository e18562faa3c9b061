-- Each change keeps that the rows fit, statement by statement.
use Rattle.std.proofs.Common.{◌≡◌, refl, ℕ, true, false, not, ◌||◌, ◌*◌, ◌+◌, List, [], ◌∷◌, map, length, Option, Some, None, Ok, Err, is_some, is_none}
use Rattle.std.specs.Prelude.{find, filter, position, option_map, nat_le, nat_lt}
use Rattle.std.specs.List.{list_any}
use Rattle.lb_base.specs.declared.key.Key.TheVariants as keys
use Rattle.lb_label.specs.Component.{empty_component}
use Rattle.lb_stmt.specs.declared.change.Access.{Access}
use Rattle.lb_stmt.specs.declared.change.Activation.{Activation}
use Rattle.lb_stmt.specs.declared.change.Change.{Change}
use Rattle.lb_stmt.specs.declared.change.ComponentDef.{ComponentDef}
use Rattle.lb_stmt.specs.declared.change.Element.{Element}
use Rattle.lb_stmt.specs.declared.change.Exempted.{Exempted}
use Rattle.lb_stmt.specs.declared.change.Grantee.{Grantee}
use Rattle.lb_stmt.specs.declared.change.LabelName.{LabelName}
use Rattle.lb_stmt.specs.declared.change.LabelPart.{LabelPart}
use Rattle.lb_stmt.specs.declared.change.MaskDef.{MaskDef}
use Rattle.lb_stmt.specs.declared.change.PermissionDef.{PermissionDef}
use Rattle.lb_stmt.specs.declared.change.PlainType.{PlainType}
use Rattle.lb_stmt.specs.declared.change.PolicyDef.{PolicyDef}
use Rattle.lb_stmt.specs.declared.change.Privilege.{Privilege}
use Rattle.lb_stmt.specs.declared.change.Switch.{Switch}
use Rattle.lb_stmt.specs.declared.change.Change.TheVariants as changes
use Rattle.lb_stmt.specs.declared.change.Grantee.TheVariants as grantees
use Rattle.lb_cat.specs.declared.refusal.Refusal.TheVariants as refusals
use Rattle.lb_cat.specs.declared.refusal.Flaw.TheVariants as flaws
use Rattle.lb_cat.specs.declared.refusal.LimitOf.TheVariants as limits
use Rattle.lb_alter.proofs.Fitting.{EachFits, each_from, each_to}
use Rattle.lb_alter.proofs.FittingChanges.{LeavesFit, created_fits, done_fits, found_fits, grants_fits, made_fits, named_too, owner_fits, policy_fits, refits_fits, relabels_fits, revokes_fits, same_tables, secured_fits, test_fits, widened_fits, without_policy_fits, without_table_fits}
use Rattle.lb_alter.proofs.SoundAlters.{acts_case, by_own_name}
use Rattle.lb_alter.proofs.SoundKinds.{is_new, none_found, not_in_use}
use Rattle.lb_alter.proofs.SoundLabels.{by_own_policy}
use Rattle.lb_alter.proofs.SoundTables.{refitted}
use Rattle.lb_alter.specs.AlterTable.{add_column, add_policy, secure_column, unsecure_column}
use Rattle.lb_alter.specs.Change.{attempt, change}
use Rattle.lb_alter.specs.ChangeControl.{activate, create_mask, create_permission, drop_mask, drop_permission, has_mask, has_permission, new_mask, new_permission, other_mask, source_refusal, switch_mask, switch_permission, takes_mask_name, takes_permission_name, with_acts, with_mask, with_permission}
use Rattle.lb_alter.specs.ChangeGrant.{create_role, drop_role_of, exempting, grant_exemption, grant_label, grant_privileges, grant_role, grant_secadm, grant_to, has_role_of, held_refusal, mismatch, reads, revoke_exemption, revoke_from, revoke_label, revoke_privileges, revoke_role, revoke_secadm, the_role, user_or_new, with_label, with_role, with_secadm, with_user_privileges, without_label, without_role, writes}
use Rattle.lb_alter.specs.ChangeLabel.{create_label, drop_label, holds, parts_refusal, secures_with, user_name}
use Rattle.lb_alter.specs.ChangePolicy.{components_refusal, create_component, create_policy, drop_component_of, drop_policy_of, elements_of, first_label, has_component, has_policy, kind_of_definition, new_policy, policy_name, table_name, with_elements}
use Rattle.lb_alter.specs.ChangeTable.{columns_in, columns_refusal, create_table, drop_table_of, flaws_refusal, is_label_type, key_refusal, keys_in, policy_of, policy_refusal, secured_refusal, user_key, width_refusal}
use Rattle.lb_alter.specs.Laws.{TablesStayFit}
use Rattle.lb_alter.specs.Named.{AreDifferent}
use Rattle.lb_alter.specs.Refusing.{exists_already, in_use, Changed, alters, each_passes, secadm, settled, when}
use Rattle.lb_cat.specs.OrRefused.{OrRefused}
use Rattle.lb_alter.specs.Sound.{IsSound}
use Rattle.lb_alter.specs.Stored.{StoredRules, calls_label, calls_policy, stored_name, user_of_table}
use Rattle.lb_cat.specs.Catalog.{Cat, Table, column_named, component_named, drop_component, drop_role, has_role, is_column, label_named, policy_named, put_component, put_role, table_named}
use Rattle.lb_cat.specs.Holdings.{has_holding_of, holding_of, holds_label, with_exemptions, with_holding, without_exemptions}
use Rattle.lb_cat.specs.Privileges.{has_grant_on}
use Rattle.lb_cat.specs.declared.catalog.Holding.{Holding}
use Rattle.lb_names.specs.Mentions.{in_cond, in_expr}
use Rattle.lb_rows.specs.Tables.{Tables, rows_of}

-- ---- a table's controls

acts_fit : (C : Cat) (T : Tables) → EachFits C T → (t : Table) → table_named C t.name ≡ Some t → (first : Activation) (second : Option Activation) → LeavesFit (alters C T (with_acts first second t))
acts_fit C T f t e first second = acts_case (λ (u : Table). LeavesFit (alters C T u)) t
    (λ row column. refits_fits C T f t e (refitted t row column t.public t.permissions t.masks) refl refl refl) first second

module _ (K : StoredRules) (C : Cat) (T : Tables) (s : IsSound K C) (f : EachFits C T) (user : List ℕ) where
  one : AreDifferent (map (λ (x : Table). x.name) C.tables)
  one = s.one_each.tables

  -- ---- tables

  create_table_fits : (n : List ℕ) (es : List Element) (policy : Option (List ℕ)) → LeavesFit (create_table C T user n es policy)
  create_table_fits n es policy =
      test_fits (when (is_some (table_named C n)) (refusals.Exists n)) _ (λ _. test_fits (when (nat_le 64 (length C.tables)) (refusals.Limit limits.Tables 64)) _
      (λ _. test_fits (when (nat_lt 64 (length (columns_in es))) (refusals.Limit limits.Columns 64)) _ (λ _. test_fits (columns_refusal [] (columns_in es)) _
      (λ _. test_fits (each_passes (key_refusal (columns_in es)) (keys_in es)) _ (λ _. test_fits (policy_refusal C policy) _ (λ _. test_fits (flaws_refusal (is_some policy) false false es (columns_in es)) _
      (λ _. test_fits (each_passes (λ d. secured_refusal (policy_of C policy) d.secured) (columns_in es)) _
      (λ _. done_fits _ _ (keys.Table n ∷ keys.Rows n ∷ []) (created_fits C T f user n es policy)))))))))

  drop_table_fits : (n : List ℕ) → LeavesFit (drop_table_of C T user n)
  drop_table_fits n =
      owner_fits C user n _ (λ t _. test_fits (in_use n (option_map stored_name (user_of_table C n))) _
      (λ _. done_fits _ _ (keys.Table n ∷ keys.Rows n ∷ map user_key (filter (has_grant_on n) C.users)) (without_table_fits C T f n)))

  add_column_fits : (n column : List ℕ) (ty : PlainType) → LeavesFit (add_column C T user n column ty)
  add_column_fits n column ty =
      owner_fits C user n _ (λ t e. test_fits (when (is_some (column_named t column)) (refusals.Exists column)) _ (λ _. test_fits (when (nat_le 64 (length t.columns)) (refusals.Limit limits.Columns 64)) _
      (λ _. test_fits (width_refusal ty) _ (λ _. test_fits (when (nat_lt 131072 (length (rows_of n T) * (length t.columns + 1))) (refusals.Limit limits.Cells 131072)) _
      (λ room. done_fits _ _ (keys.Table t.name ∷ keys.Rows t.name ∷ []) (widened_fits C T f n column ty t e (is_new _ _ room)))))))

  add_policy_fits : (n policy : List ℕ) → LeavesFit (add_policy C T user n policy)
  add_policy_fits n policy =
      owner_fits C user n _ (λ t e. test_fits (exists_already t.policy) _ (λ _. found_fits policy (policy_named C policy) _ (λ p _. refits_fits C T f t (by_own_name C n t e) (record t { policy = Some policy }) refl refl refl)))

  secure_column_fits : (n column label : List ℕ) → LeavesFit (secure_column C T user n column label)
  secure_column_fits n column label =
      owner_fits C user n _ (λ t e. found_fits column (column_named t column) _ (λ c _. test_fits (when (is_none t.policy) (refusals.BadTable column flaws.NoPolicy)) _
      (λ _. test_fits (when (is_label_type c.ty) (refusals.BadTable column flaws.LabelKey)) _ (λ _. test_fits (secured_refusal (policy_of C t.policy) (Some label)) _
      (λ _. secured_fits C T f t (by_own_name C n t e) (Some label) column)))))

  unsecure_column_fits : (n column : List ℕ) → LeavesFit (unsecure_column C T user n column)
  unsecure_column_fits n column = owner_fits C user n _ (λ t e. found_fits column (column_named t column) _ (λ c _. secured_fits C T f t (by_own_name C n t e) None column))

  -- ---- controls, permissions and masks

  activate_fits : (n : List ℕ) (first : Activation) (second : Option Activation) → LeavesFit (activate C T user n first second)
  activate_fits n first second = test_fits (secadm C user) _ (λ _. found_fits n (table_named C n) _ (λ t e. acts_fit C T f t (by_own_name C n t e) first second))

  create_permission_fits : (d : PermissionDef) → LeavesFit (create_permission K C T user d)
  create_permission_fits d =
      test_fits (secadm C user) _ (λ _. found_fits d.on.table (table_named C d.on.table) _ (λ t e. test_fits (when (list_any (takes_permission_name d) C.tables) (refusals.Exists d.name)) _
      (λ _. test_fits (K.condition_names C d.on d.condition) _ (λ _. test_fits (source_refusal C d.name t.name (in_cond d.condition)) _ (λ _. test_fits (K.condition_types C d.on d.condition) _
      (λ _. refits_fits C T f t (by_own_name C d.on.table t e) (with_permission (new_permission K C d) t) refl refl refl))))))

  create_mask_fits : (d : MaskDef) → LeavesFit (create_mask K C T user d)
  create_mask_fits d =
      test_fits (secadm C user) _ (λ _. found_fits d.on.table (table_named C d.on.table) _ (λ t e. found_fits d.column (position (is_column d.column) t.columns) _
      (λ column _. test_fits (when (list_any (takes_mask_name d column) C.tables) (refusals.Exists d.name)) _ (λ _. test_fits (exists_already (other_mask d.name column t)) _
      (λ _. test_fits (K.mask_names C d.on d.value) _ (λ _. test_fits (source_refusal C d.name t.name (in_expr d.value)) _ (λ _. test_fits (K.mask_types C d.on d.column d.value) _
      (λ _. refits_fits C T f t (by_own_name C d.on.table t e) (with_mask (new_mask K C column d) t) refl refl refl))))))))

  switch_permission_fits : (n : List ℕ) (w : Switch) → LeavesFit (switch_permission C T user n w)
  switch_permission_fits n w = test_fits (secadm C user) _ (λ _. found_fits n (find (has_permission n) C.tables) _ (λ t e. refits_fits C T f t (named_too C T f one (has_permission n) t e) _ refl refl refl))

  switch_mask_fits : (n : List ℕ) (w : Switch) → LeavesFit (switch_mask C T user n w)
  switch_mask_fits n w = test_fits (secadm C user) _ (λ _. found_fits n (find (has_mask n) C.tables) _ (λ t e. refits_fits C T f t (named_too C T f one (has_mask n) t e) _ refl refl refl))

  drop_permission_fits : (n : List ℕ) → LeavesFit (drop_permission C T user n)
  drop_permission_fits n = test_fits (secadm C user) _ (λ _. found_fits n (find (has_permission n) C.tables) _ (λ t e. refits_fits C T f t (named_too C T f one (has_permission n) t e) _ refl refl refl))

  drop_mask_fits : (n : List ℕ) → LeavesFit (drop_mask C T user n)
  drop_mask_fits n = test_fits (secadm C user) _ (λ _. found_fits n (find (has_mask n) C.tables) _ (λ t e. refits_fits C T f t (named_too C T f one (has_mask n) t e) _ refl refl refl))

  -- ---- components, policies and labels

  create_component_fits : (n : List ℕ) (d : ComponentDef) → LeavesFit (create_component C T user n d)
  create_component_fits n d =
      test_fits (secadm C user) _ (λ _. test_fits (when (is_some (component_named C n)) (refusals.Exists n)) _ (λ _. made_fits (with_elements 0 (empty_component (kind_of_definition d)) (elements_of d)) _
      (λ c. done_fits _ T (keys.Component n ∷ []) (same_tables C T f (put_component (record { name = n; definition = c }) C) (λ m. refl) (λ p parts z. z)))))

  drop_component_fits : (n : List ℕ) → LeavesFit (drop_component_of C T user n)
  drop_component_fits n =
      test_fits (secadm C user) _ (λ _. found_fits n (component_named C n) _ (λ c _. test_fits (in_use n (option_map policy_name (find (has_component n) C.policies))) _
      (λ _. done_fits _ T (keys.Component n ∷ []) (same_tables C T f (drop_component n C) (λ m. refl) (λ p parts z. z)))))

  create_policy_fits : (d : PolicyDef) → LeavesFit (create_policy C T user d)
  create_policy_fits d =
      test_fits (secadm C user) _ (λ _. test_fits (when (is_some (policy_named C d.name)) (refusals.Exists d.name)) _ (λ new. test_fits (when (nat_lt 16 (length d.components)) (refusals.Limit limits.Components 16)) _
      (λ _. test_fits (components_refusal C [] d.components) _ (λ _. done_fits _ T (keys.Policy d.name ∷ []) (policy_fits C T f (new_policy C d) (is_new _ _ new))))))

  drop_policy_fits : (n : List ℕ) → LeavesFit (drop_policy_of C T user n)
  drop_policy_fits n =
      test_fits (secadm C user) _ (λ _. found_fits n (policy_named C n) _ (λ p _. test_fits (in_use n (option_map table_name (find (λ t. has_policy n t || calls_policy n t) C.tables))) _
      (λ e. test_fits (in_use n (first_label p.labels)) _
      (λ _. done_fits _ T (keys.Policy n ∷ map user_key (filter (has_holding_of n) C.users)) (without_policy_fits C T f n s.belonging (none_found _ C.tables (not_in_use n table_name _ e)))))))

  create_label_fits : (l : LabelName) (xs : List LabelPart) → LeavesFit (create_label C T user l xs)
  create_label_fits l xs =
      test_fits (secadm C user) _ (λ _. found_fits l.policy (policy_named C l.policy) _ (λ p e. test_fits (when (is_some (label_named p l.label)) (refusals.Exists l.label)) _
      (λ _. test_fits (parts_refusal p [] xs) _ (λ _. relabels_fits C T f p (by_own_policy C l.policy p e) _))))

  drop_label_fits : (l : LabelName) → LeavesFit (drop_label C T user l)
  drop_label_fits l =
      test_fits (secadm C user) _ (λ _. found_fits l.policy (policy_named C l.policy) _ (λ p e. found_fits l.label (label_named p l.label) _ (λ x _.
      test_fits (in_use l.label (option_map user_name (find (holds l) C.users))) _ (λ _. test_fits (in_use l.label (option_map table_name (find (λ t. secures_with l t || calls_label l.policy l.label t) C.tables))) _
      (λ _. relabels_fits C T f p (by_own_policy C l.policy p e) _)))))

  -- ---- grants

  grant_label_fits : (l : LabelName) (n : List ℕ) (access : Access) → LeavesFit (grant_label C T user l n access)
  grant_label_fits l n access =
      test_fits (secadm C user) _ (λ _. found_fits l.policy (policy_named C l.policy) _ (λ p _. found_fits l.label (label_named p l.label) _ (λ x _.
      let h : Holding = holding_of l.policy (user_or_new C n) in
      test_fits (held_refusal (reads access) l.label h.read) _ (λ _. test_fits (held_refusal (writes access) l.label h.write) _ (λ _. test_fits (mismatch p (with_label access l.label h)) _
      (λ _. grants_fits C T f n (with_holding (with_label access l.label h))))))))

  revoke_label_fits : (l : LabelName) (n : List ℕ) → LeavesFit (revoke_label C T user l n)
  revoke_label_fits l n =
      test_fits (secadm C user) _ (λ _. found_fits l.policy (policy_named C l.policy) _ (λ p _. found_fits l.label (label_named p l.label) _ (λ x _.
      let h : Holding = holding_of l.policy (user_or_new C n) in
      test_fits (when (not (holds_label l.label h)) (refusals.Unknown l.label)) _ (λ _. revokes_fits C T f n (with_holding (without_label l.label h))))))

  grant_exemption_fits : (rule : Exempted) (policy n : List ℕ) → LeavesFit (grant_exemption C T user rule policy n)
  grant_exemption_fits rule policy n = test_fits (secadm C user) _ (λ _. found_fits policy (policy_named C policy) _ (λ p _. grants_fits C T f n (exempting with_exemptions rule policy)))

  revoke_exemption_fits : (rule : Exempted) (policy n : List ℕ) → LeavesFit (revoke_exemption C T user rule policy n)
  revoke_exemption_fits rule policy n = test_fits (secadm C user) _ (λ _. found_fits policy (policy_named C policy) _ (λ p _. revokes_fits C T f n (exempting without_exemptions rule policy)))

  create_role_fits : (n : List ℕ) → LeavesFit (create_role C T user n)
  create_role_fits n =
      test_fits (secadm C user) _ (λ _. test_fits (when (has_role C n) (refusals.Exists n)) _ (λ _. done_fits _ T [] (same_tables C T f (put_role (record { name = n }) C) (λ m. refl) (λ p parts z. z))))

  drop_role_fits : (n : List ℕ) → LeavesFit (drop_role_of C T user n)
  drop_role_fits n =
      test_fits (secadm C user) _ (λ _. test_fits (the_role C n) _ (λ _. test_fits (in_use n (option_map user_name (find (has_role_of n) C.users))) _
      (λ _. done_fits _ T [] (same_tables C T f (drop_role n C) (λ m. refl) (λ p parts z. z)))))

  grant_role_fits : (role n : List ℕ) → LeavesFit (grant_role C T user role n)
  grant_role_fits role n = test_fits (secadm C user) _ (λ _. test_fits (the_role C role) _ (λ _. grants_fits C T f n (with_role role)))

  revoke_role_fits : (role n : List ℕ) → LeavesFit (revoke_role C T user role n)
  revoke_role_fits role n = test_fits (secadm C user) _ (λ _. test_fits (the_role C role) _ (λ _. revokes_fits C T f n (without_role role)))

  grant_secadm_fits : (n : List ℕ) → LeavesFit (grant_secadm C T user n)
  grant_secadm_fits n = test_fits (secadm C user) _ (λ _. grants_fits C T f n (with_secadm true))

  revoke_secadm_fits : (n : List ℕ) → LeavesFit (revoke_secadm C T user n)
  revoke_secadm_fits n = test_fits (secadm C user) _ (λ _. revokes_fits C T f n (with_secadm false))

  grant_to_fits : (t : Table) → table_named C t.name ≡ Some t → (ps : List Privilege) (to : Grantee) → LeavesFit (grant_to C T t ps to)
  grant_to_fits t e ps (grantees.User n) = grants_fits C T f n (with_user_privileges true ps t.name)
  grant_to_fits t e ps grantees.Public = refits_fits C T f t e _ refl refl refl

  revoke_from_fits : (t : Table) → table_named C t.name ≡ Some t → (ps : List Privilege) (from : Grantee) → LeavesFit (revoke_from C T t ps from)
  revoke_from_fits t e ps (grantees.User n) = revokes_fits C T f n (with_user_privileges false ps t.name)
  revoke_from_fits t e ps grantees.Public = refits_fits C T f t e _ refl refl refl

  grant_privileges_fits : (ps : List Privilege) (n : List ℕ) (to : Grantee) → LeavesFit (grant_privileges C T user ps n to)
  grant_privileges_fits ps n to = owner_fits C user n _ (λ t e. grant_to_fits t (by_own_name C n t e) ps to)

  revoke_privileges_fits : (ps : List Privilege) (n : List ℕ) (from : Grantee) → LeavesFit (revoke_privileges C T user ps n from)
  revoke_privileges_fits ps n from = owner_fits C user n _ (λ t e. revoke_from_fits t (by_own_name C n t e) ps from)

  attempt_fits : (c : Change) → LeavesFit (attempt K C T user c)
  attempt_fits (changes.CreateTable n es policy) = create_table_fits n es policy
  attempt_fits (changes.DropTable n) = drop_table_fits n
  attempt_fits (changes.AddColumn n column ty) = add_column_fits n column ty
  attempt_fits (changes.AddPolicy n policy) = add_policy_fits n policy
  attempt_fits (changes.SecureColumn n column label) = secure_column_fits n column label
  attempt_fits (changes.UnsecureColumn n column) = unsecure_column_fits n column
  attempt_fits (changes.Activate n first second) = activate_fits n first second
  attempt_fits (changes.CreatePermission d) = create_permission_fits d
  attempt_fits (changes.CreateMask d) = create_mask_fits d
  attempt_fits (changes.SwitchPermission n s) = switch_permission_fits n s
  attempt_fits (changes.SwitchMask n s) = switch_mask_fits n s
  attempt_fits (changes.DropPermission n) = drop_permission_fits n
  attempt_fits (changes.DropMask n) = drop_mask_fits n
  attempt_fits (changes.CreateComponent n d) = create_component_fits n d
  attempt_fits (changes.DropComponent n) = drop_component_fits n
  attempt_fits (changes.CreatePolicy d) = create_policy_fits d
  attempt_fits (changes.DropPolicy n) = drop_policy_fits n
  attempt_fits (changes.CreateLabel l parts) = create_label_fits l parts
  attempt_fits (changes.DropLabel l) = drop_label_fits l
  attempt_fits (changes.GrantLabel l n access) = grant_label_fits l n access
  attempt_fits (changes.RevokeLabel l n) = revoke_label_fits l n
  attempt_fits (changes.GrantExemption rule policy n) = grant_exemption_fits rule policy n
  attempt_fits (changes.RevokeExemption rule policy n) = revoke_exemption_fits rule policy n
  attempt_fits (changes.CreateRole n) = create_role_fits n
  attempt_fits (changes.DropRole n) = drop_role_fits n
  attempt_fits (changes.GrantRole role n) = grant_role_fits role n
  attempt_fits (changes.RevokeRole role n) = revoke_role_fits role n
  attempt_fits (changes.GrantSecadm n) = grant_secadm_fits n
  attempt_fits (changes.RevokeSecadm n) = revoke_secadm_fits n
  attempt_fits (changes.GrantPrivileges privileges n to) = grant_privileges_fits privileges n to
  attempt_fits (changes.RevokePrivileges privileges n from) = revoke_privileges_fits privileges n from

settled_fits : (C : Cat) (T : Tables) → EachFits C T → (m : OrRefused Changed) → LeavesFit m → EachFits (settled C T m).cat (settled C T m).tables
settled_fits C T f (Ok d) h = h.fits d refl
settled_fits C T f (Err r) h = f

pub stays_fit : (K : StoredRules) → TablesStayFit K
stays_fit K C T user c s h =
    let f : EachFits C T = each_from C T h in
    each_to (change K C T user c).cat (change K C T user c).tables (settled_fits C T f (attempt K C T user c) (attempt_fits K C T s f user c))
