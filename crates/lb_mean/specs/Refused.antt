-- Why a query is refused before it is evaluated: a privilege, a protected column, a mask that doesn't go with the groups.
use Rattle.std.specs.Prelude.{ℕ, ◌&&◌, ◌||◌, not, Bool, true, false, if◌then◌else◌, List, [], ◌∷◌, ◌++◌, map, filter, filter_map, Option, Some, None, option_map, slice_index_or}
use Rattle.std.specs.List.{list_any, list_all, flat_map, position_from}
use Rattle.std.specs.Option.{option_and_then, option_or}
use Rattle.std.specs.Str.{bytes_eq}
use Rattle.lb_tree.specs.declared.query.Select.{Select}
use Rattle.lb_tree.specs.declared.query.Query.{Query}
use Rattle.lb_tree.specs.declared.query.Cond.TheOpen as layers
use Rattle.lb_tree.specs.declared.query.Cond.TheViews.{out-Query, out-Item, out-Expr}
use Rattle.lb_tree.specs.Folds.{Written}
use Rattle.lb_cat.specs.declared.catalog.ColumnRec.{ColumnRec}
use Rattle.lb_cat.specs.declared.catalog.LabelRec.{LabelRec}
use Rattle.lb_cat.specs.declared.catalog.MaskRec.{MaskRec}
use Rattle.lb_cat.specs.declared.cred.Cred.{Cred}
use Rattle.lb_cat.specs.declared.refusal.NeededPrivilege.{NeededPrivilege}
use Rattle.lb_cat.specs.declared.refusal.Refusal.{Refusal}
use Rattle.lb_cat.specs.declared.refusal.Refusal.TheVariants as refusals
use Rattle.lb_cat.specs.Catalog.{Cat, Table, Policy, table_named, policy_named, label_named, is_column, is_among}
use Rattle.lb_cat.specs.Privileges.{may}
use Rattle.lb_mean.specs.Labels.{read_failure}
use Rattle.lb_mean.specs.Conditions.{is_listed}
use Rattle.lb_mean.specs.Named.{FromItem, Named, Use, Uses, ItemUses, QueryUses, plainly, belongs, name_of_item}
use Rattle.lb_mean.specs.Uses.{uses_in, uses_in_query}
use Rattle.lb_mean.specs.Visible.{mask_at}
use Rattle.lb_mean.specs.Ordered.{Sorts, by_name, by_number, by_value, sorts_by}

-- the first that there is
abbrev pub first_some : {A : Type 0} → List (Option A) → Option A
first_some [] = None
first_some (x ∷ xs) = option_or x (first_some xs)

-- ---- privileges

-- the session may not do it with the table
abbrev pub lacks : Cred → NeededPrivilege → List ℕ → Table → Option Refusal
lacks c which n t = if may c which t then None else Some (refusals.Privilege which n)

-- the session lacks the privilege on the table with that name; one that isn't there is refused before
abbrev pub privilege_lacked : Cat → Cred → NeededPrivilege → List ℕ → Option Refusal
privilege_lacked C c which n = option_and_then (lacks c which n) (table_named C n)

-- ---- protected columns

-- the name of a policy's component
abbrev pub component_at : Policy → ℕ → List ℕ
component_at p at = slice_index_or p.components at []

-- the columns of a table, none where it isn't there
abbrev pub columns_in : Option Table → List ColumnRec
columns_in None = []
columns_in (Some t) = t.columns

-- the columns of the table with that name
abbrev pub columns_of : Cat → List ℕ → List ColumnRec
columns_of C n = columns_in (table_named C n)

-- a column with its label can't be read
abbrev pub column_unreadable : Cred → Policy → List ℕ → LabelRec → Option Refusal
column_unreadable c p column l = option_map (λ f. refusals.ColumnRead column (component_at p f.component) f.rule) (read_failure c p l.parts.items)

-- the label of the policy that protects the column
abbrev pub label_securing : Policy → ColumnRec → Option LabelRec
label_securing p column = option_and_then (label_named p) column.secured

-- a column that the session can't read; one without a label is no protected column
abbrev pub column_refused : Cred → Option Policy → ColumnRec → Option Refusal
column_refused c None column = None
column_refused c (Some p) column = option_and_then (column_unreadable c p column.name) (label_securing p column)

-- the policy of a table
abbrev pub policy_of_table : Cat → Table → Option Policy
policy_of_table C t = option_and_then (policy_named C) t.policy

-- a column is named
abbrev pub is_used : Use → ColumnRec → Bool
is_used u column = u.everything || is_among u.columns column.name

-- the first column in column order that is named and can't be read
abbrev pub use_refused_in : Cat → Cred → Use → Table → Option Refusal
use_refused_in C c u t = first_some (map (column_refused c (policy_of_table C t)) (filter (is_used u) t.columns))

-- the same of a table of FROM, as the catalogue has it
abbrev pub use_refused : Cat → Cred → Use → Option Refusal
use_refused C c u = option_and_then (use_refused_in C c u) (table_named C u.item.tab.table)

-- the output name of an item
abbrev pub output_name : Written layers.Item-F → Option (List ℕ)
output_name (layers.Item-F.Value e name) = name
output_name _ = None

-- the output names of a query
abbrev pub output_names : Query → List (List ℕ)
output_names q = filter_map (λ item. output_name (out-Item item)) (out-Query q).items

-- a sort key is its own expression, and stands for no item
abbrev pub is_expression : List (List ℕ) → Sorts → Bool
is_expression names (by_name n) = not (is_among names n)
is_expression names (by_number k) = false
is_expression names by_value = true

-- what the keys of ORDER BY name that stand for no item
abbrev pub order_uses : Cat → Select → List Uses
order_uses C s = map (λ k. uses_in (columns_of C) k.by) (filter (λ k. is_expression (output_names s.query) (sorts_by (out-Expr k.by))) s.order)

-- the tables of a query statement with the columns named through them, in the order of the text
abbrev pub tables_used : Cat → Select → List Use
tables_used C s =
    ((uses_in_query (columns_of C) s.query).within (flat_map (λ u. u.columns) (order_uses C s))).tables ++ flat_map (λ u. u.tables) (order_uses C s)

-- the first protected column that the session can't read: tables in the order of the text, and the columns of each in column order
abbrev pub columns_refused : Cat → Cred → Select → Option Refusal
columns_refused C c s = first_some (map (use_refused C c) (tables_used C s))

-- ---- masks

-- a column of a table of FROM that the select list uses, and whether it stands in an aggregate
pub record Shown : Type 0 where
  pub item : FromItem
  pub column : List ℕ
  pub aggregated : Bool

-- all columns of a table, as `*` shows them
abbrev pub all_shown : FromItem → List Shown
all_shown item = map (λ c. record { item = item; column = c.name; aggregated = false }) item.columns

-- a column as it is written, with the table that it belongs to
abbrev pub shown_by_name : List FromItem → Named → List Shown
shown_by_name items n = map (λ item. record { item = item; column = n.column.name; aggregated = n.aggregated }) (filter (λ item. belongs item n) items)

-- the columns that an item of the select list uses, in the order of the text, those of `*` in column order
abbrev pub shown_by : List FromItem → ItemUses → List Shown
shown_by items x = flat_map all_shown (filter x.shows items) ++ flat_map (shown_by_name items) x.within.columns

-- the columns by which a mask may choose: those of GROUP BY, or else of a DISTINCT query those that are selected bare
abbrev pub may_choose_by : QueryUses → List Shown
may_choose_by q = if is_listed q.group
    then flat_map (shown_by_name q.from) (map plainly q.group)
    else flat_map (shown_by q.from) (filter (λ x. x.bare) q.items)

-- a column of a table of FROM is among them
abbrev pub is_allowed : List Shown → FromItem → Named → Bool
is_allowed allowed item n = list_any (λ x. bytes_eq (name_of_item x.item) (name_of_item item) && bytes_eq x.column n.column.name) allowed

-- a use of a masked column, with the mask
pub record MaskedUse : Type 0 where
  pub shown : Shown
  pub mask : MaskRec

-- the mask that stands for a column of a table
abbrev pub mask_of : Table → List ℕ → Option MaskRec
mask_of t n = option_and_then (mask_at t) (position_from (is_column n) 0 t.columns)

-- a use of a column that has a mask
abbrev pub masked_use : Cat → Shown → Option MaskedUse
masked_use C x = option_map (λ m. record { shown = x; mask = m }) (option_and_then (λ t. mask_of t x.column) (table_named C x.item.tab.table))

-- The mask refuses the use: it stands outside aggregates, and the CASE names a column of its row that it may not choose by.
-- Columns of the tables in the CASE's subqueries are free.
abbrev pub refuses : Cat → List Shown → MaskedUse → Bool
refuses C allowed u = not (u.shown.aggregated || list_all (is_allowed allowed u.shown.item) (uses_in (columns_of C) u.mask.value).columns)

-- the mask of a use refuses one of the uses of that mask
abbrev pub mask_refused : Cat → List Shown → List MaskedUse → MaskedUse → Option Refusal
mask_refused C allowed uses u = if list_any (λ v. bytes_eq v.mask.name u.mask.name && refuses C allowed v) uses then Some (refusals.MaskGroup u.mask.name) else None

-- the first mask, in the order of the masks' first uses, that refuses one of its uses
abbrev pub first_refused : Cat → List Shown → List MaskedUse → Option Refusal
first_refused C allowed uses = first_some (map (mask_refused C allowed uses) uses)

-- masks are asked only where the query has GROUP BY or DISTINCT
abbrev pub masks_refused_in : Cat → Bool → QueryUses → Option Refusal
masks_refused_in C distinct q = if is_listed q.group || distinct
    then first_refused C (may_choose_by q) (filter_map (masked_use C) (flat_map (shown_by q.from) q.items))
    else None

-- the first mask that refuses a query statement
abbrev pub masks_refused : Cat → Select → Option Refusal
masks_refused C s = masks_refused_in C (out-Query s.query).distinct (uses_in_query (columns_of C) s.query)
