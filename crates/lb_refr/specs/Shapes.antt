-- The small statements, told by tests of their trees.
use Rattle.std.specs.Prelude.{ℕ, ℤ, pos, Bool, true, false, not, ◌&&◌, ◌==◌, nat_le, List, [], ◌∷◌, map, length, is_none}
use Rattle.std.specs.List.{list_all}
use Rattle.lb_tree.specs.declared.query.Comparison.TheVariants as comparisons
use Rattle.lb_tree.specs.declared.query.Atom.TheVariants as atoms
use Rattle.lb_tree.specs.declared.query.Expr.{Expr}
use Rattle.lb_tree.specs.declared.query.Cond.{Cond}
use Rattle.lb_tree.specs.declared.query.Item.{Item}
use Rattle.lb_tree.specs.declared.query.Join.{Join}
use Rattle.lb_tree.specs.declared.query.Arm.{Arm}
use Rattle.lb_tree.specs.declared.query.Chain.{Chain}
use Rattle.lb_tree.specs.declared.query.Choice.{Choice}
use Rattle.lb_tree.specs.declared.query.Signed.{Signed}
use Rattle.lb_tree.specs.declared.query.Query.{Query}
use Rattle.lb_tree.specs.declared.query.Tab.{Tab}
use Rattle.lb_tree.specs.declared.query.Select.{Select}
use Rattle.lb_tree.specs.declared.query.Cond.TheOpen as layers
use Rattle.lb_tree.specs.declared.query.Cond.TheViews.{out-Expr, out-Cond, out-Item, out-Chain, out-Query}
use Rattle.lb_stmt.specs.declared.write.InsertSource.{InsertSource}
use Rattle.lb_stmt.specs.declared.write.InsertSource.TheVariants as sources
use Rattle.lb_stmt.specs.declared.write.Insert.{Insert}
use Rattle.lb_stmt.specs.declared.write.Stmt.{Stmt}
use Rattle.lb_stmt.specs.declared.write.Stmt.TheVariants as stmts
use Rattle.lb_stmt.specs.declared.change.PlainType.TheVariants as plains
use Rattle.lb_stmt.specs.declared.change.ColumnType.{ColumnType}
use Rattle.lb_stmt.specs.declared.change.ColumnType.TheVariants as types
use Rattle.lb_stmt.specs.declared.change.Element.{Element}
use Rattle.lb_stmt.specs.declared.change.Element.TheVariants as elements
use Rattle.lb_stmt.specs.declared.change.ControlOf.{ControlOf}
use Rattle.lb_stmt.specs.declared.change.ControlOf.TheVariants as controls
use Rattle.lb_stmt.specs.declared.change.Activation.{Activation}
use Rattle.lb_stmt.specs.declared.change.PermissionDef.{PermissionDef}
use Rattle.lb_stmt.specs.declared.change.Change.{Change}
use Rattle.lb_stmt.specs.declared.change.Change.TheVariants as changes
use Rattle.lb_model.specs.Change.{is_enabled}
use Rattle.lb_model.specs.Evaluation.{ExprLayer, CondLayer}
use Rattle.lb_model.specs.Small.{are_different}

-- ---- CREATE TABLE

-- a width from 1 to 254
abbrev pub is_width : ℤ → Bool
is_width (pos n) = nat_le 1 n && nat_le n 254
is_width _ = false

-- VARCHAR of such a width
abbrev pub is_varchar : ColumnType → Bool
is_varchar (types.Plain (plains.Text width)) = is_width width
is_varchar _ = false

-- a column with such a type and no option
abbrev pub is_text_column : Element → Bool
is_text_column (elements.Column d) = is_varchar d.ty && not d.not_null && not d.key && is_none d.secured
is_text_column (elements.Key n) = false

abbrev pub element_name : Element → List ℕ
element_name (elements.Column d) = d.name
element_name (elements.Key n) = n

-- 1 to 64 elements
abbrev pub has_column_count : List Element → Bool
has_column_count es = not (length es == 0) && nat_le (length es) 64

-- 1 to 64 such columns, with different names
abbrev pub are_text_columns : List Element → Bool
are_text_columns es = has_column_count es && list_all is_text_column es && are_different (map element_name es)

-- ---- INSERT

abbrev pub is_text_layer : ExprLayer → Bool
is_text_layer (layers.Expr-F.Atom (atoms.Text t)) = true
is_text_layer _ = false

-- a text literal
abbrev pub is_text : Expr → Bool
is_text e = is_text_layer (out-Expr e)

-- VALUES with text literals only
abbrev pub are_texts : InsertSource → Bool
are_texts (sources.Rows rows) = list_all (list_all is_text) rows
are_texts (sources.Query query) = false

-- without a list of columns
abbrev pub inserts_texts : Insert → Bool
inserts_texts i = is_none i.columns && are_texts i.source

-- ---- SELECT

-- a table without a correlation name
abbrev pub is_plain : Tab → Bool
is_plain t = is_none t.correlation

abbrev pub is_star_layer : layers.Item-F Cond Expr Item Join Arm Chain Choice Query Signed → Bool
is_star_layer layers.Item-F.Everything = true
is_star_layer _ = false

-- SELECT *
abbrev pub is_star : List Item → Bool
is_star (i ∷ []) = is_star_layer (out-Item i)
is_star _ = false

-- FROM one table, without joins
abbrev pub is_one_table : List Chain → Bool
is_one_table (c ∷ []) = is_plain (out-Chain c).first && (length (out-Chain c).joins == 0)
is_one_table _ = false

-- SELECT * FROM t, and nothing else
abbrev pub is_whole_table : Query → Bool
is_whole_table q = not (out-Query q).distinct && is_star (out-Query q).items && is_one_table (out-Query q).from && is_none (out-Query q).filter && (length (out-Query q).group == 0) && is_none (out-Query q).having

-- without ORDER BY and FETCH
abbrev pub selects_whole_table : Select → Bool
selects_whole_table s = is_whole_table s.query && (length s.order == 0) && is_none s.fetch

-- ---- CREATE PERMISSION

-- a column without a correlation name
abbrev pub is_column_layer : ExprLayer → Bool
is_column_layer (layers.Expr-F.Atom (atoms.Column c)) = is_none c.correlation
is_column_layer _ = false

-- SESSION_USER
abbrev pub is_user_layer : ExprLayer → Bool
is_user_layer (layers.Expr-F.Atom atoms.SessionUser) = true
is_user_layer _ = false

abbrev pub is_user_test_layer : CondLayer → Bool
is_user_test_layer (layers.Cond-F.Compare comparisons.Equal a b) = is_column_layer (out-Expr a) && is_user_layer (out-Expr b)
is_user_test_layer _ = false

-- a column = SESSION_USER
abbrev pub is_user_test : Cond → Bool
is_user_test q = is_user_test_layer (out-Cond q)

-- CREATE PERMISSION .. FOR ROWS WHERE a column = SESSION_USER ENFORCED FOR ALL ACCESS ENABLE
abbrev pub is_small_permission : PermissionDef → Bool
is_small_permission d = not d.replace && is_plain d.on && is_user_test d.condition && is_enabled d.switch

-- ---- ALTER TABLE

abbrev pub is_row_control : ControlOf → Bool
is_row_control controls.Row = true
is_row_control controls.Column = false

-- ACTIVATE ROW ACCESS CONTROL
abbrev pub activates_row_control : Activation → Bool
activates_row_control a = a.activate && is_row_control a.of

-- ---- the statements

abbrev pub is_small_change : Change → Bool
is_small_change (changes.CreateTable t es policy) = is_none policy && are_text_columns es
is_small_change (changes.CreatePermission d) = is_small_permission d
is_small_change (changes.Activate t first second) = is_none second && activates_row_control first
is_small_change _ = false

abbrev pub has_small_tree : Stmt → Bool
has_small_tree (stmts.Select s) = selects_whole_table s
has_small_tree (stmts.Insert i) = inserts_texts i
has_small_tree (stmts.Change c) = is_small_change c
has_small_tree _ = false
