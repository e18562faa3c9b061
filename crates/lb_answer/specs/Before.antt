-- Why a write is refused before its candidates: names and types, privileges, protected columns read and written, masks.
use Rattle.std.specs.Prelude.{ℕ, Bool, true, false, List, [], ◌∷◌, ◌++◌, map, filter, Option, Some, None, option_map}
use Rattle.std.specs.List.{flat_map}
use Rattle.std.specs.Option.{option_and_then}
use Rattle.lb_tree.specs.declared.query.Cond.{Cond}
use Rattle.lb_tree.specs.declared.query.Tab.{Tab}
use Rattle.lb_stmt.specs.declared.write.Assignment.{Assignment}
use Rattle.lb_stmt.specs.declared.write.Delete.{Delete}
use Rattle.lb_stmt.specs.declared.write.Insert.{Insert}
use Rattle.lb_stmt.specs.declared.write.InsertSource.{InsertSource}
use Rattle.lb_stmt.specs.declared.write.InsertSource.TheVariants as sources
use Rattle.lb_stmt.specs.declared.write.Stmt.TheVariants as stmts
use Rattle.lb_stmt.specs.declared.write.Update.{Update}
use Rattle.lb_cat.specs.declared.catalog.ColumnRec.{ColumnRec}
use Rattle.lb_cat.specs.declared.catalog.LabelRec.{LabelRec}
use Rattle.lb_cat.specs.declared.cred.Cred.{Cred}
use Rattle.lb_cat.specs.declared.refusal.NeededPrivilege.{NeededPrivilege}
use Rattle.lb_cat.specs.declared.refusal.NeededPrivilege.TheVariants as needed
use Rattle.lb_cat.specs.declared.refusal.Refusal.{Refusal}
use Rattle.lb_cat.specs.declared.refusal.Refusal.TheVariants as refusals
use Rattle.lb_cat.specs.Catalog.{Cat, Table, Policy, table_named, is_among}
use Rattle.lb_names.specs.Mentions.{Mentions, in_assignment, in_source, in_where, tables_in}
use Rattle.lb_mean.specs.Answer.{Checks}
use Rattle.lb_mean.specs.Labels.{write_failure}
use Rattle.lb_mean.specs.Named.{Named, Use, Uses, if_used, named_through}
use Rattle.lb_mean.specs.Uses.{uses_in, uses_in_cond, from_item}
use Rattle.lb_mean.specs.Refused.{first_some, privilege_lacked, component_at, columns_of, label_securing, policy_of_table, use_refused, columns_refused, masks_refused}

-- ---- privileges

-- the privilege on the target, and then SELECT on the tables of the subqueries and of the source, in the order of the text
abbrev pub privileges_refused : Cat → Cred → NeededPrivilege → List ℕ → Mentions → Option Refusal
privileges_refused C c which target others = first_some (privilege_lacked C c which target ∷ map (privilege_lacked C c needed.Select) (tables_in others))

-- ---- protected columns that are read

-- what SET and WHERE name
abbrev pub uses_of_parts : Cat → List Assignment → Option Cond → List Uses
uses_of_parts C assignments filter = map (λ a. uses_in (columns_of C) a.value) assignments ++ (if_used (option_map (uses_in_cond (columns_of C)) filter) ∷ [])

-- the target with the columns that are named through it
abbrev pub target_use : Cat → Tab → List Named → Use
target_use C tab named = record { item = from_item (columns_of C) tab; columns = named_through (from_item (columns_of C) tab) named; everything = false }

-- the target, and then the tables of the subqueries, with the columns named through each
abbrev pub tables_read : Cat → Tab → List Assignment → Option Cond → List Use
tables_read C tab assignments filter =
    target_use C tab (flat_map (λ u. u.columns) (uses_of_parts C assignments filter)) ∷ flat_map (λ u. u.tables) (uses_of_parts C assignments filter)

-- ColumnRead of an UPDATE or a DELETE
abbrev pub reads_refused : Cat → Cred → Tab → List Assignment → Option Cond → Option Refusal
reads_refused C c tab assignments filter = first_some (map (use_refused C c) (tables_read C tab assignments filter))

-- ---- protected columns that are written

-- a column with its label can't be written
abbrev pub column_unwritable : Cred → Policy → List ℕ → LabelRec → Option Refusal
column_unwritable c p column l = option_map (λ f. refusals.ColumnWrite column (component_at p f.component) f.rule) (write_failure c p l.parts.items)

-- a column that the session can't write; one without a label is no protected column
abbrev pub write_refused : Cred → Option Policy → ColumnRec → Option Refusal
write_refused c None column = None
write_refused c (Some p) column = option_and_then (column_unwritable c p column.name) (label_securing p column)

-- ColumnWrite: the first, in column order, of the columns that are written and that the session can't write
abbrev pub writes_refused_in : Cat → Cred → (ColumnRec → Bool) → Table → Option Refusal
writes_refused_in C c is_written t = first_some (map (write_refused c (policy_of_table C t)) (filter is_written t.columns))

-- the same of the target, as the catalogue has it
abbrev pub writes_refused : Cat → Cred → (ColumnRec → Bool) → List ℕ → Option Refusal
writes_refused C c is_written target = option_and_then (writes_refused_in C c is_written) (table_named C target)

-- INSERT writes the columns that it lists, and without a list all
abbrev pub is_listed_column : Option (List (List ℕ)) → ColumnRec → Bool
is_listed_column None column = true
is_listed_column (Some names) column = is_among names column.name

-- UPDATE writes the columns that it sets
abbrev pub is_set : List Assignment → ColumnRec → Bool
is_set assignments column = is_among (map (λ a. a.column) assignments) column.name

-- ---- the source of an INSERT

-- ColumnRead of the source: VALUES names no columns
abbrev pub source_reads_refused : Cat → Cred → InsertSource → Option Refusal
source_reads_refused C c (sources.Rows rows) = None
source_reads_refused C c (sources.Query s) = columns_refused C c s

-- MaskGroup of the source
abbrev pub source_masks_refused : Cat → InsertSource → Option Refusal
source_masks_refused C (sources.Rows rows) = None
source_masks_refused C (sources.Query s) = masks_refused C s

-- ---- the first refusal before the candidates: names, types, Privilege, ColumnRead, ColumnWrite, MaskGroup

-- of an INSERT
abbrev pub insert_refused : Checks → Cat → Cred → Insert → Option Refusal
insert_refused checks C c i = first_some (
    checks C.tables C.policies (stmts.Insert i)
    ∷ privileges_refused C c needed.Insert i.table (in_source i.source)
    ∷ source_reads_refused C c i.source
    ∷ writes_refused C c (is_listed_column i.columns) i.table
    ∷ source_masks_refused C i.source
    ∷ [])

-- of an UPDATE
abbrev pub update_refused : Checks → Cat → Cred → Update → Option Refusal
update_refused checks C c u = first_some (
    checks C.tables C.policies (stmts.Update u)
    ∷ privileges_refused C c needed.Update u.target.table (flat_map in_assignment u.assignments ++ in_where u.filter)
    ∷ reads_refused C c u.target u.assignments u.filter
    ∷ writes_refused C c (is_set u.assignments) u.target.table
    ∷ [])

-- of a DELETE
abbrev pub delete_refused : Checks → Cat → Cred → Delete → Option Refusal
delete_refused checks C c d = first_some (
    checks C.tables C.policies (stmts.Delete d)
    ∷ privileges_refused C c needed.Delete d.target.table (in_where d.filter)
    ∷ reads_refused C c d.target [] d.filter
    ∷ writes_refused C c (λ column. true) d.target.table
    ∷ [])
