-- Each change of a table keeps that the DATE literals of permissions and masks are days, and that rows stand under the names of tables alone, once under each, statement by statement.
use Rattle.std.proofs.Common.{◌≡◌, refl, sym, subst, ◌++◌, cond, ℕ, true, false, not, ◌*◌, ◌+◌, List, [], ◌∷◌, map, length, Option, Some, None, is_some, is_none}
use Rattle.std.specs.Prelude.{if◌then◌else◌, find, filter, position, option_map, nat_le, nat_lt}
use Rattle.std.specs.List.{AllByRecursion, list_any}
use Rattle.lb_base.specs.declared.key.Key.TheVariants as keys
use Rattle.lb_stmt.specs.declared.change.Activation.{Activation}
use Rattle.lb_stmt.specs.declared.change.Element.{Element}
use Rattle.lb_stmt.specs.declared.change.MaskDef.{MaskDef}
use Rattle.lb_stmt.specs.declared.change.PermissionDef.{PermissionDef}
use Rattle.lb_stmt.specs.declared.change.PlainType.{PlainType}
use Rattle.lb_stmt.specs.declared.change.Switch.{Switch}
use Rattle.lb_cat.specs.declared.refusal.Refusal.TheVariants as refusals
use Rattle.lb_cat.specs.declared.refusal.Flaw.TheVariants as flaws
use Rattle.lb_cat.specs.declared.refusal.LimitOf.TheVariants as limits
use Rattle.lb_alter.specs.AlterTable.{add_column, add_policy, secure_column, unsecure_column, with_null, plain_column, change_column, secure}
use Rattle.lb_alter.specs.ChangeControl.{activate, create_mask, create_permission, drop_mask, drop_permission, has_mask, has_permission, is_enabled, new_mask, new_permission, other_mask, source_refusal, switch_mask, switch_permission, takes_mask_name, takes_permission_name, with_acts, with_mask, with_permission}
use Rattle.lb_alter.specs.ChangeTable.{columns_in, columns_refusal, create_table, drop_table_of, flaws_refusal, is_label_type, key_refusal, keys_in, policy_of, policy_refusal, secured_refusal, user_key, width_refusal, new_table}
use Rattle.lb_alter.specs.Refusing.{exists_already, in_use, alters, each_passes, secadm, when}
use Rattle.lb_cat.specs.Catalog.{Cat, Table, column_named, is_column, is_mask, is_permission, policy_named, table_named, is_table}
use Rattle.lb_cat.specs.Privileges.{has_grant_on}
use Rattle.lb_names.specs.Mentions.{in_cond, in_expr}
use Rattle.lb_rows.specs.Tables.{Tables, rows_of}
use Rattle.lb_cat.specs.declared.catalog.MaskRec.{MaskRec}
use Rattle.lb_cat.specs.declared.catalog.PermissionRec.{PermissionRec}
use Rattle.lb_alter.specs.Stored.{stored_name, user_of_table}
use Rattle.lb_alter.proofs.SoundAlters.{acts_case}
use Rattle.lb_alter.proofs.SoundUsers.{all_found, all_put, all_filter}
use Rattle.lb_kinds.specs.Days.{days_in, days_in_cond, AreDays}
use Rattle.lb_fits.specs.Dated.{PermissionHasDays, MaskHasDays, StoresDays}
use Rattle.lb_alter.specs.Naming.{named_in, stored_rules}
use Rattle.lb_standing.proofs.Kept.{Kept, LeavesKept, test_kept, done_kept, found_kept, owner_kept, alters_kept, put_both, without_table}
use Rattle.lb_standing.proofs.Qualified.{condition_days, mask_days}

-- ---- a table's controls and masks

acts_kept : (C : Cat) (T : Tables) → Kept C.tables T → (t : Table) → StoresDays t → (first : Activation) (second : Option Activation) → LeavesKept (alters C T (with_acts first second t))
acts_kept C T f t e first second = acts_case (λ (u : Table). LeavesKept (alters C T u)) t
    (λ row column. alters_kept C T f (record t { row_control = row; column_control = column }) e) first second

masks_switched : (n : List ℕ) (w : Switch) (ms : List MaskRec) → AllByRecursion MaskHasDays ms → AllByRecursion MaskHasDays (map (λ m. if is_mask n m then record m { enabled = is_enabled w } else m) ms)
masks_switched n w [] h = tt
masks_switched n w (m ∷ ms) h =
    elim (is_mask n m) as (λ b. AllByRecursion MaskHasDays (cond b (record m { enabled = is_enabled w }) m ∷ map (λ m. if is_mask n m then record m { enabled = is_enabled w } else m) ms)) [
      | true ↦ (h.0, masks_switched n w ms h.1)
      | false ↦ (h.0, masks_switched n w ms h.1)
    ]

permissions_switched : (n : List ℕ) (w : Switch) (ps : List PermissionRec) → AllByRecursion PermissionHasDays ps → AllByRecursion PermissionHasDays (map (λ p. if is_permission n p then record p { enabled = is_enabled w } else p) ps)
permissions_switched n w [] h = tt
permissions_switched n w (p ∷ ps) h =
    elim (is_permission n p) as (λ b. AllByRecursion PermissionHasDays (cond b (record p { enabled = is_enabled w }) p ∷ map (λ p. if is_permission n p then record p { enabled = is_enabled w } else p) ps)) [
      | true ↦ (h.0, permissions_switched n w ps h.1)
      | false ↦ (h.0, permissions_switched n w ps h.1)
    ]

module _ (C : Cat) (T : Tables) (f : Kept C.tables T) (user : List ℕ) where
  -- the permissions and masks of a table that is there
  pub named : (n : List ℕ) (t : Table) → table_named C n ≡ Some t → StoresDays t
  named n t e = all_found StoresDays (is_table n) C.tables t f.days e

  -- ---- tables

  pub create_table_kept : (n : List ℕ) (es : List Element) (policy : Option (List ℕ)) → LeavesKept (create_table C T user n es policy)
  create_table_kept n es policy =
      test_kept (when (is_some (table_named C n)) (refusals.Exists n)) _ (λ _. test_kept (when (nat_le 64 (length C.tables)) (refusals.Limit limits.Tables 64)) _
      (λ _. test_kept (when (nat_lt 64 (length (columns_in es))) (refusals.Limit limits.Columns 64)) _ (λ _. test_kept (columns_refusal [] (columns_in es)) _
      (λ _. test_kept (each_passes (key_refusal (columns_in es)) (keys_in es)) _ (λ _. test_kept (policy_refusal C policy) _ (λ _. test_kept (flaws_refusal (is_some policy) false false es (columns_in es)) _
      (λ _. test_kept (each_passes (λ d. secured_refusal (policy_of C policy) d.secured) (columns_in es)) _
      (λ _. done_kept _ _ (keys.Table n ∷ keys.Rows n ∷ []) (put_both C T f (new_table user n es policy) (record { name = n; rows = [] }) refl (tt, tt))))))))))

  pub drop_table_kept : (n : List ℕ) → LeavesKept (drop_table_of C T user n)
  drop_table_kept n =
      owner_kept C user n _ (λ t _. test_kept (in_use n (option_map stored_name (user_of_table C n))) _
      (λ _. done_kept _ _ (keys.Table n ∷ keys.Rows n ∷ map user_key (filter (has_grant_on n) C.users)) (without_table C T f n)))

  pub add_column_kept : (n column : List ℕ) (ty : PlainType) → LeavesKept (add_column C T user n column ty)
  add_column_kept n column ty =
      owner_kept C user n _ (λ t e. test_kept (when (is_some (column_named t column)) (refusals.Exists column)) _ (λ _. test_kept (when (nat_le 64 (length t.columns)) (refusals.Limit limits.Columns 64)) _
      (λ _. test_kept (width_refusal ty) _ (λ _. test_kept (when (nat_lt 131072 (length (rows_of n T) * (length t.columns + 1))) (refusals.Limit limits.Cells 131072)) _
      (λ _. done_kept _ _ (keys.Table t.name ∷ keys.Rows t.name ∷ []) (put_both C T f (record t { columns = t.columns ++ plain_column column ty ∷ [] }) (record { name = t.name; rows = map with_null (rows_of n T) }) refl (named n t e)))))))

  pub add_policy_kept : (n policy : List ℕ) → LeavesKept (add_policy C T user n policy)
  add_policy_kept n policy =
      owner_kept C user n _ (λ t e. test_kept (exists_already t.policy) _ (λ _. found_kept policy (policy_named C policy) _ (λ p _. alters_kept C T f (record t { policy = Some policy }) (named n t e))))

  pub secure_column_kept : (n column label : List ℕ) → LeavesKept (secure_column C T user n column label)
  secure_column_kept n column label =
      owner_kept C user n _ (λ t e. found_kept column (column_named t column) _ (λ c _. test_kept (when (is_none t.policy) (refusals.BadTable column flaws.NoPolicy)) _
      (λ _. test_kept (when (is_label_type c.ty) (refusals.BadTable column flaws.LabelKey)) _ (λ _. test_kept (secured_refusal (policy_of C t.policy) (Some label)) _
      (λ _. alters_kept C T f (record t { columns = change_column (secure (Some label)) column t.columns }) (named n t e))))))

  pub unsecure_column_kept : (n column : List ℕ) → LeavesKept (unsecure_column C T user n column)
  unsecure_column_kept n column = owner_kept C user n _ (λ t e. found_kept column (column_named t column) _ (λ c _. alters_kept C T f (record t { columns = change_column (secure None) column t.columns }) (named n t e)))

  -- ---- controls, permissions and masks

  pub activate_kept : (n : List ℕ) (first : Activation) (second : Option Activation) → LeavesKept (activate C T user n first second)
  activate_kept n first second = test_kept (secadm C user) _ (λ _. found_kept n (table_named C n) _ (λ t e. acts_kept C T f t (named n t e) first second))

  pub create_permission_kept : (d : PermissionDef) → AreDays (days_in_cond d.condition) → LeavesKept (create_permission stored_rules C T user d)
  create_permission_kept d days =
      test_kept (secadm C user) _ (λ _. found_kept d.on.table (table_named C d.on.table) _ (λ t e. test_kept (when (list_any (takes_permission_name d) C.tables) (refusals.Exists d.name)) _
      (λ _. test_kept (stored_rules.condition_names C d.on d.condition) _ (λ _. test_kept (source_refusal C d.name t.name (in_cond d.condition)) _ (λ _. test_kept (stored_rules.condition_types C d.on d.condition) _
      (λ _. alters_kept C T f (with_permission (new_permission stored_rules C d) t)
      (all_put PermissionHasDays (is_permission d.name) (new_permission stored_rules C d) t.permissions (named d.on.table t e).0 (subst AreDays (sym (condition_days (named_in C) d.on d.condition)) days), (named d.on.table t e).1)))))))

  pub create_mask_kept : (d : MaskDef) → AreDays (days_in d.value) → LeavesKept (create_mask stored_rules C T user d)
  create_mask_kept d days =
      test_kept (secadm C user) _ (λ _. found_kept d.on.table (table_named C d.on.table) _ (λ t e. found_kept d.column (position (is_column d.column) t.columns) _
      (λ column _. test_kept (when (list_any (takes_mask_name d column) C.tables) (refusals.Exists d.name)) _ (λ _. test_kept (exists_already (other_mask d.name column t)) _
      (λ _. test_kept (stored_rules.mask_names C d.on d.value) _ (λ _. test_kept (source_refusal C d.name t.name (in_expr d.value)) _ (λ _. test_kept (stored_rules.mask_types C d.on d.column d.value) _
      (λ _. alters_kept C T f (with_mask (new_mask stored_rules C column d) t)
      ((named d.on.table t e).0, all_put MaskHasDays (is_mask d.name) (new_mask stored_rules C column d) t.masks (named d.on.table t e).1 (subst AreDays (sym (mask_days (named_in C) d.on d.value)) days))))))))))

  pub switch_permission_kept : (n : List ℕ) (w : Switch) → LeavesKept (switch_permission C T user n w)
  switch_permission_kept n w =
      test_kept (secadm C user) _ (λ _. found_kept n (find (has_permission n) C.tables) _ (λ t e.
      let h : StoresDays t = all_found StoresDays (has_permission n) C.tables t f.days e in alters_kept C T f _ (permissions_switched n w t.permissions h.0, h.1)))

  pub switch_mask_kept : (n : List ℕ) (w : Switch) → LeavesKept (switch_mask C T user n w)
  switch_mask_kept n w =
      test_kept (secadm C user) _ (λ _. found_kept n (find (has_mask n) C.tables) _ (λ t e.
      let h : StoresDays t = all_found StoresDays (has_mask n) C.tables t f.days e in alters_kept C T f _ (h.0, masks_switched n w t.masks h.1)))

  pub drop_permission_kept : (n : List ℕ) → LeavesKept (drop_permission C T user n)
  drop_permission_kept n =
      test_kept (secadm C user) _ (λ _. found_kept n (find (has_permission n) C.tables) _ (λ t e.
      let h : StoresDays t = all_found StoresDays (has_permission n) C.tables t f.days e in alters_kept C T f _ (all_filter PermissionHasDays (λ p. not (is_permission n p)) t.permissions h.0, h.1)))

  pub drop_mask_kept : (n : List ℕ) → LeavesKept (drop_mask C T user n)
  drop_mask_kept n =
      test_kept (secadm C user) _ (λ _. found_kept n (find (has_mask n) C.tables) _ (λ t e.
      let h : StoresDays t = all_found StoresDays (has_mask n) C.tables t f.days e in alters_kept C T f _ (h.0, all_filter MaskHasDays (λ m. not (is_mask n m)) t.masks h.1)))
