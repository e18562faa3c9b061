-- The canonical text of a statement.
use Rattle.std.specs.Prelude.{ℕ, List, [], ◌∷◌, ◌++◌, map, Option, Some, None}
use Rattle.lb_tree.specs.declared.query.Expr.{Expr}
use Rattle.lb_stmt.specs.declared.write.InsertSource.{InsertSource}
use Rattle.lb_stmt.specs.declared.write.InsertSource.TheVariants as sources
use Rattle.lb_stmt.specs.declared.write.Insert.{Insert}
use Rattle.lb_stmt.specs.declared.write.Assignment.{Assignment}
use Rattle.lb_stmt.specs.declared.write.Update.{Update}
use Rattle.lb_stmt.specs.declared.write.Delete.{Delete}
use Rattle.lb_stmt.specs.declared.write.Stmt.{Stmt}
use Rattle.lb_stmt.specs.declared.write.Stmt.TheVariants as stmts
use Rattle.lb_tok.specs.declared.kind.Kind.TheVariants as kinds
use Rattle.lb_tok.specs.declared.token.Token.{Token}
use Rattle.lb_tok.specs.Spacing.{Piece, mark, name, tokens_in, spaced}
use Rattle.lb_tok.specs.QueryPieces.{listed, parens, name_pieces, tab_pieces, expr_pieces, select_pieces, where_pieces}
use Rattle.lb_tok.specs.ChangePieces.{change_pieces}

-- ---- writes

abbrev pub targets_pieces : Option (List (List ℕ)) → List Piece
targets_pieces None = []
targets_pieces (Some ns) = parens (listed (map name_pieces ns))

abbrev pub row_pieces : List Expr → List Piece
row_pieces es = parens (listed (map expr_pieces es))

abbrev pub source_pieces : InsertSource → List Piece
source_pieces (sources.Rows rows) = mark kinds.Values ∷ listed (map row_pieces rows)
source_pieces (sources.Query s) = select_pieces s

abbrev pub insert_pieces : Insert → List Piece
insert_pieces i = mark kinds.Insert ∷ mark kinds.Into ∷ name i.table ∷ (targets_pieces i.columns ++ source_pieces i.source)

abbrev pub assignment_pieces : Assignment → List Piece
assignment_pieces a = name a.column ∷ mark kinds.Equal ∷ expr_pieces a.value

abbrev pub update_pieces : Update → List Piece
update_pieces u = mark kinds.Update ∷ (tab_pieces u.target ++ mark kinds.Set ∷ (listed (map assignment_pieces u.assignments) ++ where_pieces u.filter))

abbrev pub delete_pieces : Delete → List Piece
delete_pieces d = mark kinds.Delete ∷ mark kinds.From ∷ (tab_pieces d.target ++ where_pieces d.filter)

-- ---- statements

-- the pieces of a statement in canonical order
abbrev pub stmt_pieces : Stmt → List Piece
stmt_pieces (stmts.Select s) = select_pieces s
stmt_pieces (stmts.Insert i) = insert_pieces i
stmt_pieces (stmts.Update u) = update_pieces u
stmt_pieces (stmts.Delete d) = delete_pieces d
stmt_pieces (stmts.Change c) = change_pieces c

-- its tokens
abbrev pub tokens_of : Stmt → List Token
tokens_of s = tokens_in (stmt_pieces s)

-- its text: a blank between two pieces, but none before `, ) ] }` and none after `( [ {`
unfoldable pub canonical : Stmt → List ℕ
canonical s = spaced (stmt_pieces s)
