-- What a change of the catalogue answers and leaves.
use Rattle.std.specs.Prelude.{ℕ, ℤ, pos, negsuc, nat_lt, ◌^◌, Bool, true, false, List, [], ◌∷◌, ◌++◌, map, Option, None, Some, if◌then◌else◌}
use Rattle.std.specs.List.{filter_map}
use Rattle.std.specs.Str.{bytes_eq}
use Rattle.lb_base.specs.declared.key.Key.{Key}
use Rattle.lb_base.specs.declared.key.Key.TheVariants as keys
use Rattle.lb_base.specs.declared.key.Ty.{Ty}
use Rattle.lb_base.specs.declared.key.Ty.TheVariants as types
use Rattle.lb_tree.specs.declared.query.Atom.{Atom}
use Rattle.lb_tree.specs.declared.query.Atom.TheVariants as atoms
use Rattle.lb_tree.specs.declared.query.Column.{Column}
use Rattle.lb_tree.specs.declared.query.Expr.{Expr}
use Rattle.lb_tree.specs.declared.query.Expr.TheVariants as exprs
use Rattle.lb_tree.specs.declared.query.Cond.{Cond}
use Rattle.lb_tree.specs.declared.query.Cond.TheVariants as conds
use Rattle.lb_tree.specs.declared.query.Cond.TheOpen as layers
use Rattle.lb_tree.specs.declared.query.Cond.TheViews.{out-Expr, out-Cond}
use Rattle.lb_stmt.specs.declared.change.ColumnDef.{ColumnDef}
use Rattle.lb_stmt.specs.declared.change.ColumnType.{ColumnType}
use Rattle.lb_stmt.specs.declared.change.ColumnType.TheVariants as column_types
use Rattle.lb_stmt.specs.declared.change.PlainType.TheVariants as plains
use Rattle.lb_stmt.specs.declared.change.Element.{Element}
use Rattle.lb_stmt.specs.declared.change.Element.TheVariants as elements
use Rattle.lb_stmt.specs.declared.change.PermissionDef.{PermissionDef}
use Rattle.lb_stmt.specs.declared.change.Switch.{Switch}
use Rattle.lb_stmt.specs.declared.change.Switch.TheVariants as switches
use Rattle.lb_stmt.specs.declared.change.Change.{Change}
use Rattle.lb_stmt.specs.declared.change.Change.TheVariants as changes
use Rattle.lb_model.specs.declared.catalog.ColumnRec.{ColumnRec}
use Rattle.lb_model.specs.declared.catalog.PermissionRec.{PermissionRec}
use Rattle.lb_model.specs.declared.catalog.TableRec.{TableRec}
use Rattle.lb_cat.specs.declared.reply.Reply.{Reply}
use Rattle.lb_cat.specs.declared.reply.Reply.TheVariants as replies
use Rattle.lb_cat.specs.declared.refusal.Refusal.{Refusal}
use Rattle.lb_cat.specs.declared.refusal.Refusal.TheVariants as refusals
use Rattle.lb_model.specs.Evaluation.{ExprLayer, CondLayer}
use Rattle.lb_model.specs.Catalog.{Cat, Tables, table_named, put_version, with_changed, has_column, has_permission}

-- what a change leaves: the catalogue, the rows, the keys that it touches, and its reply
pub record Changed : Type 0 where
  pub cat : Cat
  pub tables : Tables
  pub touched : List Key
  pub reply : Reply

-- a refused change leaves all as it was and touches nothing
abbrev pub refuses : Cat → Tables → Refusal → Changed
refuses C T refusal = record { cat = C; tables = T; touched = []; reply = replies.Refused refusal }

-- an accepted change of one table's record
abbrev pub alters : Cat → Tables → List ℕ → (TableRec → TableRec) → Changed
alters C T n f = record { cat = record { tables = with_changed n f C.tables }; tables = T; touched = keys.Table n ∷ []; reply = replies.Done }

-- a width as the catalogue keeps it; only widths from 1 to 254 are built so far
abbrev pub width_of : ℤ → ℕ
width_of (pos n) = if nat_lt n (2 ^ 32) then n else 0
width_of (negsuc n) = 0

abbrev pub type_of : ColumnType → Ty
type_of (column_types.Plain (plains.Text n)) = types.Text (width_of n)
type_of (column_types.Plain plains.Date) = types.Date
type_of _ = types.Int

-- a column of CREATE TABLE; an element that only names the key is none
abbrev pub column_of : Element → Option ColumnRec
column_of (elements.Column d) = Some (record { name = d.name; ty = type_of d.ty })
column_of (elements.Key n) = None

abbrev pub new_table : List ℕ → List ℕ → List Element → TableRec
new_table user n es = record { name = n; owner = user; columns = filter_map column_of es; row_control = false; permissions = [] }

-- CREATE TABLE: a table without rows goes last, owned by the user
abbrev pub create_table : Option TableRec → Cat → Tables → List ℕ → List ℕ → List Element → Changed
create_table (Some t) C T user n es = refuses C T (refusals.Exists n)
create_table None C T user n es = record {
  cat = record { tables = C.tables ++ new_table user n es ∷ [] };
  tables = put_version (record { name = n; rows = [] }) T;
  touched = keys.Table n ∷ keys.Rows n ∷ [];
  reply = replies.Done;
}

-- the columns that a condition names, in the order in which they are written
abbrev pub columns_in : ExprLayer → List Column
columns_in (layers.Expr-F.Atom (atoms.Column c)) = c ∷ []
columns_in _ = []

abbrev pub columns_within : CondLayer → List Column
columns_within (layers.Cond-F.Compare by a b) = columns_in (out-Expr a) ++ columns_in (out-Expr b)
columns_within _ = []

abbrev pub columns_of : Cond → List Column
columns_of q = columns_within (out-Cond q)

-- the first of them that the table lacks
abbrev pub first_missing : List ColumnRec → List Column → Option (List ℕ)
first_missing columns [] = None
first_missing columns (c ∷ cs) = if has_column c.name columns then first_missing columns cs else Some c.name

-- a stored condition calls each of its columns by the table's correlation name; the rest of it stays
abbrev pub qualified_atom : List ℕ → Expr → ExprLayer → Expr
qualified_atom correlation e (layers.Expr-F.Atom (atoms.Column c)) = exprs.Atom (atoms.Column (record { correlation = Some correlation; name = c.name }))
qualified_atom correlation e _ = e

abbrev pub qualified_expr : List ℕ → Expr → Expr
qualified_expr correlation e = qualified_atom correlation e (out-Expr e)

abbrev pub qualified_parts : List ℕ → Cond → CondLayer → Cond
qualified_parts correlation q (layers.Cond-F.Compare by a b) = conds.Compare by (qualified_expr correlation a) (qualified_expr correlation b)
qualified_parts correlation q _ = q

abbrev pub qualified : List ℕ → Cond → Cond
qualified correlation q = qualified_parts correlation q (out-Cond q)

abbrev pub is_enabled : Switch → Bool
is_enabled switches.Enable = true
is_enabled switches.Disable = false

-- the correlation name that is written after the table, else the table's name
abbrev pub name_or : Option (List ℕ) → List ℕ → List ℕ
name_or None n = n
name_or (Some written) n = written

abbrev pub new_permission : PermissionDef → PermissionRec
new_permission d = record {
  name = d.name;
  correlation = name_or d.on.correlation d.on.table;
  condition = qualified (name_or d.on.correlation d.on.table) d.condition;
  enabled = is_enabled d.switch;
}

-- the permission goes last among the table's
abbrev pub add_permission : PermissionRec → TableRec → TableRec
add_permission p t = record t { permissions = t.permissions ++ p ∷ [] }

abbrev pub permit_named : Option (List ℕ) → Cat → Tables → PermissionDef → Changed
permit_named (Some missing) C T d = refuses C T (refusals.Unknown missing)
permit_named None C T d = alters C T d.on.table (add_permission (new_permission d))

-- CREATE PERMISSION: the table is there, the name is free over all tables, and the table has the columns of the condition
abbrev pub create_permission : Option TableRec → Cat → Tables → PermissionDef → Changed
create_permission None C T d = refuses C T (refusals.Unknown d.on.table)
create_permission (Some t) C T d =
    if has_permission d.name C.tables
    then refuses C T (refusals.Exists d.name)
    else permit_named (first_missing t.columns (columns_of d.condition)) C T d

-- row access control becomes active, also where it was
abbrev pub control_rows : TableRec → TableRec
control_rows t = record t { row_control = true }

-- ALTER TABLE .. ACTIVATE ROW ACCESS CONTROL
abbrev pub activate : Option TableRec → Cat → Tables → List ℕ → Changed
activate None C T n = refuses C T (refusals.Unknown n)
activate (Some t) C T n = alters C T n control_rows

-- what the user's change leaves; so far tables and permissions are made and row access control is activated
abbrev pub change : Cat → Tables → List ℕ → Change → Changed
change C T user (changes.CreateTable n es policy) = create_table (table_named n C.tables) C T user n es
change C T user (changes.CreatePermission d) = create_permission (table_named d.on.table C.tables) C T d
change C T user (changes.Activate n first second) = activate (table_named n C.tables) C T n
change C T user _ = record { cat = C; tables = T; touched = []; reply = replies.Done }
