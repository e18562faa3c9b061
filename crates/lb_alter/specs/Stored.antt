-- The conditions that a catalogue stores: those of permissions, and the CASE of masks.
use Rattle.std.specs.Prelude.{ℕ, Bool, List, ◌++◌, map, find, Option}
use Rattle.std.specs.List.{flat_map, list_any}
use Rattle.lb_tree.specs.declared.query.Cond.{Cond}
use Rattle.lb_tree.specs.declared.query.Expr.{Expr}
use Rattle.lb_tree.specs.declared.query.Tab.{Tab}
use Rattle.lb_cat.specs.declared.catalog.PermissionRec.{PermissionRec}
use Rattle.lb_cat.specs.declared.catalog.MaskRec.{MaskRec}
use Rattle.lb_cat.specs.declared.refusal.Refusal.{Refusal}
use Rattle.lb_rows.specs.Lists.{without}
use Rattle.lb_cat.specs.Catalog.{Cat, Table, is_table}
use Rattle.lb_names.specs.Mentions.{Mentions, in_cond, in_expr, is_table_mention, is_policy_mention, is_label_mention}

-- The rules of names and types over stored conditions, which take the catalogue, and the table with the correlation name by which
-- the condition calls it. What a change does and what soundness asks is said for any such rules.
pub record StoredRules : Type 0 where
  -- the first refusal of a name
  pub condition_names : Cat → Tab → Cond → Option Refusal
  pub mask_names : Cat → Tab → Expr → Option Refusal
  -- the first refusal of a type; the CASE of a mask has the type of the column with that name, which isn't a label
  pub condition_types : Cat → Tab → Cond → Option Refusal
  pub mask_types : Cat → Tab → List ℕ → Expr → Option Refusal
  -- the same with each column qualified
  pub qualified_condition : Cat → Tab → Cond → Cond
  pub qualified_mask : Cat → Tab → Expr → Expr
  -- each column of the tree is qualified already
  pub are_qualified : Cond → Bool
  pub are_qualified_in : Expr → Bool

-- ---- what they name

-- a permission or a mask: its name, and what it names
pub record Stored : Type 0 where
  pub name : List ℕ
  pub mentions : Mentions

-- a permission, by what its condition names
abbrev pub stored_permission : PermissionRec → Stored
stored_permission p = record { name = p.name; mentions = in_cond p.condition }

-- a mask, by what its CASE names
abbrev pub stored_mask : MaskRec → Stored
stored_mask m = record { name = m.name; mentions = in_expr m.value }

-- those of a table, permissions before masks, each in the order of creation
abbrev pub stored_in : Table → List Stored
stored_in t = map stored_permission t.permissions ++ map stored_mask t.masks

-- its name
abbrev pub stored_name : Stored → List ℕ
stored_name s = s.name

-- what it names
abbrev pub mentions_of : Stored → Mentions
mentions_of s = s.mentions

-- what the permissions and masks of a table name
abbrev pub mentioned_in : Table → Mentions
mentioned_in t = flat_map mentions_of (stored_in t)

-- it reads the table
abbrev pub names_table : List ℕ → Stored → Bool
names_table n s = list_any (is_table_mention n) s.mentions

-- the first permission or mask of another table that names the table
abbrev pub user_of_table : Cat → List ℕ → Option Stored
user_of_table C n = find (names_table n) (flat_map stored_in (without (is_table n) C.tables))

-- a permission or mask of the table names the policy in a call
abbrev pub calls_policy : List ℕ → Table → Bool
calls_policy p t = list_any (is_policy_mention p) (mentioned_in t)

-- a permission or mask of the table names the label in a call of SECLABEL_BY_NAME
abbrev pub calls_label : List ℕ → List ℕ → Table → Bool
calls_label p l t = list_any (is_label_mention p l) (mentioned_in t)
