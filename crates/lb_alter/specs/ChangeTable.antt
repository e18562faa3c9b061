-- CREATE TABLE and DROP TABLE.
use Rattle.std.specs.Prelude.{ℕ, ℤ, pos, negsuc, nat_lt, nat_le, Bool, true, false, not, ◌&&◌, ◌||◌, List, [], ◌∷◌, map, filter, filter_map, position, length, Option, None, Some, is_some, is_none, option_map, option_and_then, unwrap_or}
use Rattle.std.specs.List.{list_any}
use Rattle.std.specs.Str.{bytes_eq}
use Rattle.lb_base.specs.declared.key.Key.{Key}
use Rattle.lb_base.specs.declared.key.Key.TheVariants as keys
use Rattle.lb_base.specs.declared.key.Ty.{Ty}
use Rattle.lb_base.specs.declared.key.Ty.TheVariants as types
use Rattle.lb_stmt.specs.declared.change.ColumnDef.{ColumnDef}
use Rattle.lb_stmt.specs.declared.change.ColumnType.{ColumnType}
use Rattle.lb_stmt.specs.declared.change.ColumnType.TheVariants as column_types
use Rattle.lb_stmt.specs.declared.change.PlainType.{PlainType}
use Rattle.lb_stmt.specs.declared.change.PlainType.TheVariants as plains
use Rattle.lb_stmt.specs.declared.change.Element.{Element}
use Rattle.lb_stmt.specs.declared.change.Element.TheVariants as elements
use Rattle.lb_cat.specs.declared.catalog.ColumnRec.{ColumnRec}
use Rattle.lb_cat.specs.declared.refusal.Refusal.{Refusal}
use Rattle.lb_cat.specs.declared.refusal.Refusal.TheVariants as refusals
use Rattle.lb_cat.specs.declared.refusal.LimitOf.TheVariants as limits
use Rattle.lb_cat.specs.declared.refusal.Flaw.TheVariants as flaws
use Rattle.lb_rows.specs.Tables.{Tables, is_version, put_version}
use Rattle.lb_rows.specs.Lists.{without}
use Rattle.lb_cat.specs.Catalog.{Cat, Table, Policy, User, table_named, policy_named, label_named, is_among, put_table, drop_table}
use Rattle.lb_cat.specs.Privileges.{no_privileges, has_grant_on, without_grant}
use Rattle.lb_alter.specs.Refusing.{◌>>◌, Changed, when, earliest, each_passes, owner, done, in_use}
use Rattle.lb_cat.specs.OrRefused.{OrRefused, ◌>>=◌}
use Rattle.lb_alter.specs.Stored.{stored_name, user_of_table}

-- ---- types

-- the width is 1 to 254
abbrev pub is_width : ℤ → Bool
is_width (pos n) = nat_le 1 n && nat_le n 254
is_width (negsuc n) = false

-- the width as a number
abbrev pub width_of : ℤ → ℕ
width_of (pos n) = n
width_of (negsuc n) = 0

-- a text column has a width that it may have
abbrev pub has_width : PlainType → Bool
has_width plains.Int = true
has_width (plains.Text width) = is_width width
has_width plains.Date = true

-- refused for the width
abbrev pub width_refusal : PlainType → Option Refusal
width_refusal ty = when (not (has_width ty)) (refusals.Limit limits.Width 254)

-- the type of a column that holds no label
abbrev pub plain_type : PlainType → Ty
plain_type plains.Int = types.Int
plain_type (plains.Text width) = types.Text (width_of width)
plain_type plains.Date = types.Date

-- the type is that of labels
abbrev pub is_label_type : Ty → Bool
is_label_type (types.Label policy) = true
is_label_type _ = false

-- the column holds labels
abbrev pub is_label_column : ColumnRec → Bool
is_label_column c = is_label_type c.ty

-- ---- the elements of CREATE TABLE

-- the column, if the element is one
abbrev pub column_in : Element → Option ColumnDef
column_in (elements.Column d) = Some d
column_in (elements.Key n) = None

-- the name, if the element is PRIMARY KEY
abbrev pub key_in : Element → Option (List ℕ)
key_in (elements.Column d) = None
key_in (elements.Key n) = Some n

-- the columns, in their order
abbrev pub columns_in : List Element → List ColumnDef
columns_in es = filter_map column_in es

-- the columns that PRIMARY KEY elements name
abbrev pub keys_in : List Element → List (List ℕ)
keys_in es = filter_map key_in es

-- a column is a key by its own option or by an element
abbrev pub is_key : List Element → ColumnDef → Bool
is_key es d = d.key || is_among (keys_in es) d.name

-- DB2SECURITYLABEL is written
abbrev pub is_label_kind : ColumnType → Bool
is_label_kind (column_types.Plain ty) = false
is_label_kind column_types.Label = true

-- refused for the width of a column
abbrev pub column_width_refusal : ColumnType → Option Refusal
column_width_refusal (column_types.Plain ty) = width_refusal ty
column_width_refusal column_types.Label = None

-- per column: its name is new, and its width within the limit
abbrev pub columns_refusal : List (List ℕ) → List ColumnDef → Option Refusal
columns_refusal before [] = None
columns_refusal before (d ∷ ds) = earliest
    (when (is_among before d.name) (refusals.Exists d.name)
    ∷ column_width_refusal d.ty
    ∷ columns_refusal (d.name ∷ before) ds
    ∷ [])

-- one of the columns has the name
abbrev pub has_column_named : List ColumnDef → List ℕ → Bool
has_column_named ds n = list_any (λ d. bytes_eq d.name n) ds

-- refused where PRIMARY KEY names no column of the list
abbrev pub key_refusal : List ColumnDef → List ℕ → Option Refusal
key_refusal ds n = when (not (has_column_named ds n)) (refusals.Unknown n)

-- the policy that is written, if one is, is there
abbrev pub policy_refusal : Cat → Option (List ℕ) → Option Refusal
policy_refusal C None = None
policy_refusal C (Some n) = when (is_none (policy_named C n)) (refusals.Unknown n)

-- what is wrong with a column, where the table has a policy or not, and a label column or a key stands before it or not
abbrev pub flaw_refusal : Bool → Bool → Bool → Bool → ColumnDef → Option Refusal
flaw_refusal protected label_before key_before key d = earliest
    (when ((is_label_kind d.ty || is_some d.secured) && not protected) (refusals.BadTable d.name flaws.NoPolicy)
    ∷ when (is_label_kind d.ty && label_before) (refusals.BadTable d.name flaws.TwoLabels)
    ∷ when (key && key_before) (refusals.BadTable d.name flaws.TwoKeys)
    ∷ when (is_label_kind d.ty && (key || is_some d.secured)) (refusals.BadTable d.name flaws.LabelKey)
    ∷ [])

-- the first flaw of a column, in the order of the columns
abbrev pub flaws_refusal : Bool → Bool → Bool → List Element → List ColumnDef → Option Refusal
flaws_refusal protected label_before key_before es [] = None
flaws_refusal protected label_before key_before es (d ∷ ds) = earliest
    (flaw_refusal protected label_before key_before (is_key es d) d
    ∷ flaws_refusal protected (label_before || is_label_kind d.ty) (key_before || is_key es d) es ds
    ∷ [])

-- the policy has the label
abbrev pub has_label : Option Policy → List ℕ → Bool
has_label None n = false
has_label (Some p) n = is_some (label_named p n)

-- refused where the policy hasn't the label that is written
abbrev pub secured_refusal : Option Policy → Option (List ℕ) → Option Refusal
secured_refusal policy None = None
secured_refusal policy (Some label) = when (not (has_label policy label)) (refusals.Unknown label)

-- the policy of a table, by its name
abbrev pub policy_of : Cat → Option (List ℕ) → Option Policy
policy_of C policy = option_and_then (policy_named C) policy

-- ---- CREATE TABLE

-- the type of a column, where a label column is of the table's policy
abbrev pub column_type : Option (List ℕ) → ColumnType → Ty
column_type policy (column_types.Plain ty) = plain_type ty
column_type policy column_types.Label = types.Label (unwrap_or policy [])

-- a key is NOT NULL, and a label column isn't marked so
abbrev pub new_column : List Element → Option (List ℕ) → ColumnDef → ColumnRec
new_column es policy d = record { name = d.name; ty = column_type policy d.ty; not_null = (d.not_null && not (is_label_kind d.ty)) || is_key es d; secured = d.secured }

-- the table of the user, without controls, permissions, masks and privileges
abbrev pub new_table : List ℕ → List ℕ → List Element → Option (List ℕ) → Table
new_table user n es policy = record {
  name = n;
  owner = user;
  columns = map (new_column es policy) (columns_in es);
  key = position (is_key es) (columns_in es);
  policy = policy;
  row_control = false;
  column_control = false;
  permissions = [];
  masks = [];
  public = no_privileges;
}

-- CREATE TABLE, whose user becomes the owner
abbrev pub create_table : Cat → Tables → List ℕ → List ℕ → List Element → Option (List ℕ) → OrRefused Changed
create_table C T user n es policy = do
  when (is_some (table_named C n)) (refusals.Exists n)
  when (nat_le 64 (length C.tables)) (refusals.Limit limits.Tables 64)
  when (nat_lt 64 (length (columns_in es))) (refusals.Limit limits.Columns 64)
  columns_refusal [] (columns_in es)
  each_passes (key_refusal (columns_in es)) (keys_in es)
  policy_refusal C policy
  flaws_refusal (is_some policy) false false es (columns_in es)
  each_passes (λ d. secured_refusal (policy_of C policy) d.secured) (columns_in es)
  done (put_table (new_table user n es policy) C) (put_version (record { name = n; rows = [] }) T) (keys.Table n ∷ keys.Rows n ∷ [])

-- ---- DROP TABLE

-- the key of a user's record
abbrev pub user_key : User → Key
user_key u = keys.User u.name

-- the table goes, and with it its rows and all privileges on it
abbrev pub drop_table_of : Cat → Tables → List ℕ → List ℕ → OrRefused Changed
drop_table_of C T user n = do
  t ← owner C user n
  in_use n (option_map stored_name (user_of_table C n))
  done
      (record (drop_table n C) { users = map (without_grant n) C.users })
      (without (is_version n) T)
      (keys.Table n ∷ keys.Rows n ∷ map user_key (filter (has_grant_on n) C.users))
