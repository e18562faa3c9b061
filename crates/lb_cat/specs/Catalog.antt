-- The catalogue: five lists of records in the order of first making. A record has no stamp here.
use Rattle.std.specs.Prelude.{ℕ, Bool, true, false, List, [], ◌∷◌, find, Option, Some, None, codes}
use Rattle.std.specs.List.{list_any}
use Rattle.std.specs.Str.{bytes_eq}
use Rattle.lb_label.specs.Component.{Definition}
use Rattle.lb_label.specs.Label.{IsLabel}
use Rattle.lb_cat.specs.declared.catalog.ColumnRec.{ColumnRec}
use Rattle.lb_cat.specs.declared.catalog.PermissionRec.{PermissionRec}
use Rattle.lb_cat.specs.declared.catalog.MaskRec.{MaskRec}
use Rattle.lb_cat.specs.declared.catalog.Privileges.{Privileges}
use Rattle.lb_cat.specs.declared.catalog.LabelRec.{LabelRec}
use Rattle.lb_cat.specs.declared.catalog.Grant.{Grant}
use Rattle.lb_cat.specs.declared.catalog.Holding.{Holding}
use Rattle.lb_cat.specs.declared.catalog.RoleRec.{RoleRec}
use Rattle.lb_rows.specs.Lists.{put, without}

-- ---- the records

-- a table, without its rows
pub record Table : Type 0 where
  pub name : List ℕ
  -- the user who created it
  pub owner : List ℕ
  pub columns : List ColumnRec
  -- the place of the primary key among the columns
  pub key : Option ℕ
  pub policy : Option (List ℕ)
  -- row access control is active, and so is column access control
  pub row_control : Bool
  pub column_control : Bool
  -- in the order of creation
  pub permissions : List PermissionRec
  pub masks : List MaskRec
  -- what every user may do
  pub public : Privileges

-- a security policy: its components' names and definitions in policy order, and its labels
pub record Policy : Type 0 where
  pub name : List ℕ
  pub components : List (List ℕ)
  pub shape : List Definition
  -- a label that may not be written refuses the statement
  pub restrict : Bool
  pub labels : List LabelRec

-- a security label component, by its definition
pub record Component : Type 0 where
  pub name : List ℕ
  pub definition : Definition

-- a user to whom something was granted
pub record User : Type 0 where
  pub name : List ℕ
  pub secadm : Bool
  pub roles : List (List ℕ)
  -- at most one entry for a table, and one for a policy
  pub privileges : List Grant
  pub held : List Holding

-- the catalogue, each list in the order of first making
pub record Cat : Type 0 where
  pub tables : List Table
  pub policies : List Policy
  pub components : List Component
  pub users : List User
  pub roles : List RoleRec

-- ---- looking up

-- the record has that name
abbrev pub is_table : List ℕ → Table → Bool
is_table n t = bytes_eq t.name n

-- so of a policy
abbrev pub is_policy : List ℕ → Policy → Bool
is_policy n p = bytes_eq p.name n

-- of a component
abbrev pub is_component : List ℕ → Component → Bool
is_component n c = bytes_eq c.name n

-- of a user
abbrev pub is_user : List ℕ → User → Bool
is_user n u = bytes_eq u.name n

-- and of a role
abbrev pub is_role : List ℕ → RoleRec → Bool
is_role n r = bytes_eq r.name n

-- the table of that name, if there is one
abbrev pub table_named : Cat → List ℕ → Option Table
table_named C n = find (is_table n) C.tables

-- the policy
abbrev pub policy_named : Cat → List ℕ → Option Policy
policy_named C n = find (is_policy n) C.policies

-- the parts are a label of the policy, which is there
abbrev pub IsLabelOf : Option Policy → List ℕ → Type 0
IsLabelOf None parts = ⊥
IsLabelOf (Some p) parts = IsLabel p.shape parts

-- the component
abbrev pub component_named : Cat → List ℕ → Option Component
component_named C n = find (is_component n) C.components

-- the user
abbrev pub user_named : Cat → List ℕ → Option User
user_named C n = find (is_user n) C.users

-- a role of that name is there
abbrev pub has_role : Cat → List ℕ → Bool
has_role C n = list_any (is_role n) C.roles

-- a name is among the names
abbrev pub is_among : List (List ℕ) → List ℕ → Bool
is_among names n = list_any (λ m. bytes_eq m n) names

-- the column has that name
abbrev pub is_column : List ℕ → ColumnRec → Bool
is_column n c = bytes_eq c.name n

-- the column of that name
abbrev pub column_named : Table → List ℕ → Option ColumnRec
column_named t n = find (is_column n) t.columns

-- the permission has that name
abbrev pub is_permission : List ℕ → PermissionRec → Bool
is_permission n p = bytes_eq p.name n

-- so of a mask
abbrev pub is_mask : List ℕ → MaskRec → Bool
is_mask n m = bytes_eq m.name n

-- and of a label
abbrev pub is_label : List ℕ → LabelRec → Bool
is_label n l = bytes_eq l.name n

-- the label of that name
abbrev pub label_named : Policy → List ℕ → Option LabelRec
label_named p n = find (is_label n) p.labels

-- ---- putting and dropping

-- the table in the place of the one of its name, or last
abbrev pub put_table : Table → Cat → Cat
put_table t C = record C { tables = put (is_table t.name) t C.tables }

-- the same for a policy
abbrev pub put_policy : Policy → Cat → Cat
put_policy p C = record C { policies = put (is_policy p.name) p C.policies }

-- for a component
abbrev pub put_component : Component → Cat → Cat
put_component c C = record C { components = put (is_component c.name) c C.components }

-- for a user
abbrev pub put_user : User → Cat → Cat
put_user u C = record C { users = put (is_user u.name) u C.users }

-- and for a role
abbrev pub put_role : RoleRec → Cat → Cat
put_role r C = record C { roles = put (is_role r.name) r C.roles }

-- without the table of that name
abbrev pub drop_table : List ℕ → Cat → Cat
drop_table n C = record C { tables = without (is_table n) C.tables }

-- without the policy
abbrev pub drop_policy : List ℕ → Cat → Cat
drop_policy n C = record C { policies = without (is_policy n) C.policies }

-- without the component
abbrev pub drop_component : List ℕ → Cat → Cat
drop_component n C = record C { components = without (is_component n) C.components }

-- without the role
abbrev pub drop_role : List ℕ → Cat → Cat
drop_role n C = record C { roles = without (is_role n) C.roles }

-- ---- the first catalogue

-- the record of a user to whom nothing was granted
abbrev pub no_user : List ℕ → User
no_user n = record { name = n; secadm = false; roles = []; privileges = []; held = [] }

-- one user, SECADMIN, with SECADM
abbrev pub first_cat : Cat
first_cat = record { tables = []; policies = []; components = []; users = record (no_user (codes "SECADMIN")) { secadm = true } ∷ []; roles = [] }
