-- The small statements: five forms, and the tree of each.
use Rattle.std.specs.Prelude.{ℕ, ◌≡◌, ◌≤◌, pos, Bool, true, false, not, ◌&&◌, List, [], ◌∷◌, map, length, None}
use Rattle.std.specs.List.{list_any, AllByRecursion}
use Rattle.std.specs.Str.{bytes_eq}
use Rattle.lb_tree.specs.declared.query.Comparison.TheVariants as comparisons
use Rattle.lb_tree.specs.declared.query.Atom.TheVariants as atoms
use Rattle.lb_tree.specs.declared.query.Expr.{Expr}
use Rattle.lb_tree.specs.declared.query.Expr.TheVariants as exprs
use Rattle.lb_tree.specs.declared.query.Cond.{Cond}
use Rattle.lb_tree.specs.declared.query.Cond.TheVariants as conds
use Rattle.lb_tree.specs.declared.query.Cond.TheViews.{roll-Query, roll-Chain}
use Rattle.lb_tree.specs.declared.query.Item.TheVariants as items
use Rattle.lb_tree.specs.declared.query.Query.{Query}
use Rattle.lb_tree.specs.declared.query.Tab.{Tab}
use Rattle.lb_stmt.specs.declared.write.InsertSource.TheVariants as sources
use Rattle.lb_stmt.specs.declared.write.Stmt.{Stmt}
use Rattle.lb_stmt.specs.declared.write.Stmt.TheVariants as stmts
use Rattle.lb_stmt.specs.declared.change.PlainType.TheVariants as plains
use Rattle.lb_stmt.specs.declared.change.ColumnType.TheVariants as types
use Rattle.lb_stmt.specs.declared.change.Element.{Element}
use Rattle.lb_stmt.specs.declared.change.Element.TheVariants as elements
use Rattle.lb_stmt.specs.declared.change.Switch.TheVariants as switches
use Rattle.lb_stmt.specs.declared.change.ControlOf.TheVariants as controls
use Rattle.lb_stmt.specs.declared.change.Change.TheVariants as changes

-- no name stands twice
abbrev pub are_different : List (List ℕ) → Bool
are_different [] = true
are_different (n ∷ ns) = not (list_any (bytes_eq n) ns) && are_different ns

-- ---- the forms

-- a column of CREATE TABLE: its name, and the width of its VARCHAR
pub record TextColumn : Type 0 where
  pub name : List ℕ
  pub width : ℕ

-- what is written in a small statement
pub data Form : Type 0 where
  -- CREATE TABLE: the table, and its columns
  table : List ℕ → List TextColumn → Form
  -- INSERT: the table, and the texts of each row
  insert : List ℕ → List (List (List ℕ)) → Form
  -- SELECT: the table
  select : List ℕ → Form
  -- CREATE PERMISSION: the permission, the table, and the column that is compared with SESSION_USER
  permission : List ℕ → List ℕ → List ℕ → Form
  -- ALTER TABLE: the table
  activate : List ℕ → Form

abbrev pub IsColumn : TextColumn → Type 0
IsColumn c = (1 ≤ c.width) × (c.width ≤ 254)

-- What is asked of the parts: 1 to 64 columns of width 1 to 254 with different names.
abbrev pub IsForm : Form → Type 0
IsForm (table t columns) = (1 ≤ length columns) × (length columns ≤ 64) × AllByRecursion IsColumn columns × (are_different (map (λ c. c.name) columns) ≡ true)
IsForm _ = Unit {0}

-- ---- the tree of a form

-- a table without a correlation name
abbrev pub plain_tab : List ℕ → Tab
plain_tab t = record { table = t; correlation = None }

abbrev pub element_of : TextColumn → Element
element_of c = elements.Column (record { name = c.name; ty = types.Plain (plains.Text (pos c.width)); not_null = false; key = false; secured = None })

abbrev pub literal_of : List ℕ → Expr
literal_of t = exprs.Atom (atoms.Text t)

-- SELECT * FROM t
abbrev pub whole_table : List ℕ → Query
whole_table t = roll-Query (record { distinct = false; items = items.Everything ∷ []; from = roll-Chain (record { first = plain_tab t; joins = [] }) ∷ []; filter = None; group = []; having = None })

-- c = SESSION_USER
abbrev pub is_user : List ℕ → Cond
is_user c = conds.Compare comparisons.Equal (exprs.Atom (atoms.Column (record { correlation = None; name = c }))) (exprs.Atom atoms.SessionUser)

abbrev pub statement_of : Form → Stmt
statement_of (table t columns) = stmts.Change (changes.CreateTable t (map element_of columns) None)
statement_of (insert t rows) = stmts.Insert (record { table = t; columns = None; source = sources.Rows (map (map literal_of) rows) })
statement_of (select t) = stmts.Select (record { query = whole_table t; order = []; fetch = None })
statement_of (permission p t c) = stmts.Change (changes.CreatePermission (record { replace = false; name = p; on = plain_tab t; condition = is_user c; switch = switches.Enable }))
statement_of (activate t) = stmts.Change (changes.Activate t (record { activate = true; of = controls.Row }) None)

-- the statement is the tree of a form
abbrev pub IsSmall : Stmt → Type 0
IsSmall s = (f : Form) × IsForm f × (s ≡ statement_of f)
