-- Activation of access control, permissions and masks.
use Rattle.std.specs.Prelude.{if◌then◌else◌, ℕ, Bool, true, false, not, ◌&&◌, ◌||◌, ◌==◌, List, map, find, position, Option, None, Some, option_map}
use Rattle.std.specs.List.{list_any}
use Rattle.std.specs.Str.{bytes_eq}
use Rattle.lb_tree.specs.declared.query.Tab.{Tab}
use Rattle.lb_names.specs.Sights.{correlation}
use Rattle.lb_stmt.specs.declared.change.Activation.{Activation}
use Rattle.lb_stmt.specs.declared.change.ControlOf.{ControlOf}
use Rattle.lb_stmt.specs.declared.change.ControlOf.TheVariants as controls
use Rattle.lb_stmt.specs.declared.change.Switch.{Switch}
use Rattle.lb_stmt.specs.declared.change.Switch.TheVariants as switches
use Rattle.lb_stmt.specs.declared.change.PermissionDef.{PermissionDef}
use Rattle.lb_stmt.specs.declared.change.MaskDef.{MaskDef}
use Rattle.lb_cat.specs.declared.catalog.PermissionRec.{PermissionRec}
use Rattle.lb_cat.specs.declared.catalog.MaskRec.{MaskRec}
use Rattle.lb_cat.specs.declared.refusal.Refusal.{Refusal}
use Rattle.lb_cat.specs.declared.refusal.Refusal.TheVariants as refusals
use Rattle.lb_rows.specs.Tables.{Tables}
use Rattle.lb_rows.specs.Lists.{put, without}
use Rattle.lb_cat.specs.Catalog.{Cat, Table, table_named, is_table, is_column, is_permission, is_mask}
use Rattle.lb_names.specs.Mentions.{Mentions, in_cond, in_expr, tables_in}
use Rattle.lb_alter.specs.ChangeTable.{is_label_column}
use Rattle.lb_alter.specs.Refusing.{◌>>◌, Changed, when, found, the_table, secadm, alters, exists_already}
use Rattle.lb_cat.specs.OrRefused.{OrRefused, ◌>>=◌}
use Rattle.lb_alter.specs.Stored.{StoredRules}

-- ---- activation

-- the table with row or column access control active or not
abbrev pub with_control : ControlOf → Bool → Table → Table
with_control controls.Row active t = record t { row_control = active }
with_control controls.Column active t = record t { column_control = active }

-- one act of ACTIVATE or DEACTIVATE
abbrev pub with_act : Activation → Table → Table
with_act a t = with_control a.of a.activate t

-- one act, or two in their order
abbrev pub with_acts : Activation → Option Activation → Table → Table
with_acts first None t = with_act first t
with_acts first (Some second) t = with_act second (with_act first t)

-- ACTIVATE and DEACTIVATE ROW or COLUMN ACCESS CONTROL
abbrev pub activate : Cat → Tables → List ℕ → List ℕ → Activation → Option Activation → OrRefused Changed
activate C T user n first second = do
  secadm C user
  t ← the_table C n
  alters C T (with_acts first second t)

-- ---- names

-- ENABLE or DISABLE
abbrev pub is_enabled : Switch → Bool
is_enabled switches.Enable = true
is_enabled switches.Disable = false

-- the table has a permission of that name
abbrev pub has_permission : List ℕ → Table → Bool
has_permission n t = list_any (is_permission n) t.permissions

-- the table has a mask of that name
abbrev pub has_mask : List ℕ → Table → Bool
has_mask n t = list_any (is_mask n) t.masks

-- ---- sources

-- the table is there and has a label column
abbrev pub has_labels : Option Table → Bool
has_labels None = false
has_labels (Some t) = list_any is_label_column t.columns

-- a subquery may not read the protected table, nor a table with a label column
abbrev pub is_bad_source : Cat → List ℕ → List ℕ → Bool
is_bad_source C protected n = bytes_eq n protected || has_labels (table_named C n)

-- refused for the table that is read, if there is one
abbrev pub bad_source_of : List ℕ → Option (List ℕ) → Option Refusal
bad_source_of name None = None
bad_source_of name (Some n) = Some (refusals.BadSource name n)

-- refused for the first table, in text order, that may not be read
abbrev pub source_refusal : Cat → List ℕ → List ℕ → Mentions → Option Refusal
source_refusal C name protected ms = bad_source_of name (find (is_bad_source C protected) (tables_in ms))

-- ---- permissions

-- a table takes the name: by a mask, or by a permission that isn't the one to be replaced
abbrev pub takes_permission_name : PermissionDef → Table → Bool
takes_permission_name d t = has_mask d.name t || (has_permission d.name t && not (d.replace && is_table d.on.table t))

-- the permission as it is stored
abbrev pub new_permission : StoredRules → Cat → PermissionDef → PermissionRec
new_permission K C d = record {
  name = d.name;
  correlation = correlation d.on;
  condition = K.qualified_condition C d.on d.condition;
  enabled = is_enabled d.switch;
}

-- the permission takes the place of the one that it replaces, or goes last
abbrev pub with_permission : PermissionRec → Table → Table
with_permission p t = record t { permissions = put (is_permission p.name) p t.permissions }

-- CREATE PERMISSION: the names of the condition come before its sources, and these before its types
abbrev pub create_permission : StoredRules → Cat → Tables → List ℕ → PermissionDef → OrRefused Changed
create_permission K C T user d = do
  secadm C user
  t ← the_table C d.on.table
  when (list_any (takes_permission_name d) C.tables) (refusals.Exists d.name)
  K.condition_names C d.on d.condition
  source_refusal C d.name t.name (in_cond d.condition)
  K.condition_types C d.on d.condition
  alters C T (with_permission (new_permission K C d) t)

-- ---- masks

-- the mask to be replaced: of that name, on that column of that table
abbrev pub is_replaced : MaskDef → ℕ → Table → MaskRec → Bool
is_replaced d column t m = d.replace && is_table d.on.table t && m.column == column

-- a table takes the name: by a permission, or by a mask that isn't the one to be replaced
abbrev pub takes_mask_name : MaskDef → ℕ → Table → Bool
takes_mask_name d column t = has_permission d.name t || list_any (λ m. is_mask d.name m && not (is_replaced d column t m)) t.masks

-- the name of a mask
abbrev pub mask_name : MaskRec → List ℕ
mask_name m = m.name

-- another mask of the column
abbrev pub other_mask : List ℕ → ℕ → Table → Option (List ℕ)
other_mask n column t = option_map mask_name (find (λ m. m.column == column && not (is_mask n m)) t.masks)

-- the mask as it is stored
abbrev pub new_mask : StoredRules → Cat → ℕ → MaskDef → MaskRec
new_mask K C column d = record {
  name = d.name;
  column = column;
  correlation = correlation d.on;
  value = K.qualified_mask C d.on d.value;
  enabled = is_enabled d.switch;
}

-- the mask takes the place of the one that it replaces, or goes last
abbrev pub with_mask : MaskRec → Table → Table
with_mask m t = record t { masks = put (is_mask m.name) m t.masks }

-- CREATE MASK: its CASE is of the type of the column
abbrev pub create_mask : StoredRules → Cat → Tables → List ℕ → MaskDef → OrRefused Changed
create_mask K C T user d = do
  secadm C user
  t ← the_table C d.on.table
  column ← found d.column (position (is_column d.column) t.columns)
  when (list_any (takes_mask_name d column) C.tables) (refusals.Exists d.name)
  exists_already (other_mask d.name column t)
  K.mask_names C d.on d.value
  source_refusal C d.name t.name (in_expr d.value)
  K.mask_types C d.on d.column d.value
  alters C T (with_mask (new_mask K C column d) t)

-- ---- ALTER and DROP: of the table on which the permission or mask stands

-- ALTER PERMISSION
abbrev pub switch_permission : Cat → Tables → List ℕ → List ℕ → Switch → OrRefused Changed
switch_permission C T user n s = do
  secadm C user
  t ← found n (find (has_permission n) C.tables)
  alters C T (record t { permissions = map (λ p. if is_permission n p then record p { enabled = is_enabled s } else p) t.permissions })

-- ALTER MASK
abbrev pub switch_mask : Cat → Tables → List ℕ → List ℕ → Switch → OrRefused Changed
switch_mask C T user n s = do
  secadm C user
  t ← found n (find (has_mask n) C.tables)
  alters C T (record t { masks = map (λ m. if is_mask n m then record m { enabled = is_enabled s } else m) t.masks })

-- DROP PERMISSION
abbrev pub drop_permission : Cat → Tables → List ℕ → List ℕ → OrRefused Changed
drop_permission C T user n = do
  secadm C user
  t ← found n (find (has_permission n) C.tables)
  alters C T (record t { permissions = without (is_permission n) t.permissions })

-- DROP MASK
abbrev pub drop_mask : Cat → Tables → List ℕ → List ℕ → OrRefused Changed
drop_mask C T user n = do
  secadm C user
  t ← found n (find (has_mask n) C.tables)
  alters C T (record t { masks = without (is_mask n) t.masks })
