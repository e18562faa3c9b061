-- What a query or a write answers, by the row-by-row reference, and the rows that it leaves.
use Rattle.std.specs.Prelude.{ℕ, Bool, true, false, not, ◌||◌, List, [], ◌∷◌, ◌++◌, map, length, Option, None, Some, if◌then◌else◌}
use Rattle.std.specs.List.{list_all}
use Rattle.lb_base.specs.declared.value.Value.{Value}
use Rattle.lb_base.specs.declared.value.Value.TheVariants as values
use Rattle.lb_tree.specs.declared.query.Atom.TheVariants as atoms
use Rattle.lb_tree.specs.declared.query.Expr.{Expr}
use Rattle.lb_tree.specs.declared.query.Cond.TheOpen as layers
use Rattle.lb_tree.specs.declared.query.Chain.{Chain}
use Rattle.lb_tree.specs.declared.query.Cond.TheViews.{out-Expr, out-Query, out-Chain}
use Rattle.lb_stmt.specs.declared.write.InsertSource.{InsertSource}
use Rattle.lb_stmt.specs.declared.write.InsertSource.TheVariants as sources
use Rattle.lb_stmt.specs.declared.write.Stmt.{Stmt}
use Rattle.lb_stmt.specs.declared.write.Stmt.TheVariants as stmts
use Rattle.lb_model.specs.declared.catalog.PermissionRec.{PermissionRec}
use Rattle.lb_model.specs.declared.catalog.TableRec.{TableRec}
use Rattle.lb_model.specs.declared.catalog.TableVersion.{TableVersion}
use Rattle.lb_cat.specs.declared.reply.Reply.{Reply}
use Rattle.lb_cat.specs.declared.reply.Reply.TheVariants as replies
use Rattle.lb_cat.specs.declared.refusal.Refusal.TheVariants as refusals
use Rattle.lb_cat.specs.declared.reply.Verb.TheVariants as verbs
use Rattle.lb_model.specs.Evaluation.{ExprLayer}
use Rattle.lb_model.specs.Catalog.{Cat, Tables, table_named, rows_of}
use Rattle.lb_model.specs.Visible.{enabled, is_allowed, visible}

-- the reply, and the new rows of the table that it names, where the statement wrote
pub record Answered : Type 0 where
  pub reply : Reply
  pub table : Option TableVersion

abbrev pub replied : Reply → Answered
replied r = record { reply = r; table = None }

-- a query is a statement that only reads, a write one that changes rows
abbrev pub is_query : Stmt → Bool
is_query (stmts.Select s) = true
is_query _ = false

abbrev pub is_change : Stmt → Bool
is_change (stmts.Change c) = true
is_change _ = false

abbrev pub layer_literal : ExprLayer → Value
layer_literal (layers.Expr-F.Atom (atoms.Text t)) = values.Text t
layer_literal _ = values.Null

-- the value of a literal; so far literals are texts
abbrev pub literal_value : Expr → Value
literal_value e = layer_literal (out-Expr e)

-- the rows of VALUES
abbrev pub given_rows : InsertSource → List (List Value)
given_rows (sources.Rows rows) = map (map literal_value) rows
given_rows (sources.Query query) = []

-- the table of FROM
abbrev pub first_table : List Chain → List ℕ
first_table [] = []
first_table (chain ∷ chains) = (out-Chain chain).first.table

-- SELECT * FROM a table: the rows that the user sees
abbrev pub select_from : List ℕ → List ℕ → Option TableRec → Tables → Answered
select_from user n None T = replied (replies.Refused (refusals.Unknown n))
select_from user n (Some t) T = replied (replies.Rows (visible user t (rows_of n T)))

-- every row may be inserted
abbrev pub are_insertable : List ℕ → TableRec → List (List Value) → Bool
are_insertable user t rows = not t.row_control || list_all (is_allowed user t) rows

-- INSERT INTO a table VALUES: the rows go last, or where one of them isn't allowed none is inserted
abbrev pub insert_into : List ℕ → List ℕ → Option TableRec → List (List Value) → Tables → Answered
insert_into user n None rows T = replied (replies.Refused (refusals.Unknown n))
insert_into user n (Some t) rows T =
    if are_insertable user t rows
    then record { reply = replies.Wrote verbs.Inserted (length rows); table = Some (record { name = n; rows = rows_of n T ++ rows }) }
    else replied (replies.Refused (refusals.RowPermission n (map (λ p. p.name) (enabled t))))

-- what a query or a write of the user answers
abbrev pub answer : Cat → Tables → List ℕ → Stmt → Answered
answer C T user (stmts.Select s) = select_from user (first_table (out-Query s.query).from) (table_named (first_table (out-Query s.query).from) C.tables) T
answer C T user (stmts.Insert i) = insert_into user i.table (table_named i.table C.tables) (given_rows i.source) T
answer C T user _ = replied (replies.Rows [])
