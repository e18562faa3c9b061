-- Queries and writes, read from left to right by the next token. X_at reads the production X of the grammar, where w says what
-- reads in brackets; X_on reads the rest of it after a part that is given. Where two alternatives begin alike, the reader
-- takes what they share first.
use Rattle.std.specs.Prelude.{ℕ, zero, suc, List, [], ◌∷◌, ◌++◌, true, false, Option, Some, ℤ, pos}
use Rattle.lb_tree.specs.declared.query.Expr.{Expr}
use Rattle.lb_tree.specs.declared.query.Cond.{Cond}
use Rattle.lb_tree.specs.declared.query.Cond.TheViews.{roll-Query, roll-Chain}
use Rattle.lb_tree.specs.declared.query.Query.{Query}
use Rattle.lb_tree.specs.declared.query.Chain.{Chain}
use Rattle.lb_tree.specs.declared.query.Item.{Item}
use Rattle.lb_tree.specs.declared.query.Item.TheVariants as items
use Rattle.lb_tree.specs.declared.query.Join.{Join}
use Rattle.lb_tree.specs.declared.query.Join.TheVariants as joins
use Rattle.lb_tree.specs.declared.query.Tab.{Tab}
use Rattle.lb_tree.specs.declared.query.Column.{Column}
use Rattle.lb_tree.specs.declared.query.Select.{Select}
use Rattle.lb_tree.specs.declared.query.SortKey.{SortKey}
use Rattle.lb_tree.specs.declared.query.Direction.{Direction}
use Rattle.lb_tree.specs.declared.query.Direction.TheVariants as directions
use Rattle.lb_stmt.specs.declared.write.InsertSource.{InsertSource}
use Rattle.lb_stmt.specs.declared.write.InsertSource.TheVariants as sources
use Rattle.lb_stmt.specs.declared.write.Insert.{Insert}
use Rattle.lb_stmt.specs.declared.write.Assignment.{Assignment}
use Rattle.lb_stmt.specs.declared.write.Update.{Update}
use Rattle.lb_stmt.specs.declared.write.Delete.{Delete}
use Rattle.lb_stmt.specs.declared.write.Stmt.{Stmt}
use Rattle.lb_stmt.specs.declared.write.Stmt.TheVariants as stmts
use Rattle.lb_tok.specs.declared.kind.Kind.TheVariants as kinds
use Rattle.lb_tok.specs.declared.call.Call.{Call}
use Rattle.lb_tok.specs.Kinds.{Kinds, only, names}
use Rattle.lb_tok.specs.Grammar.{of_table, a_column}
use Rattle.lb_readt.specs.Readers.{bad, deep, got, stop, Reader, seq, give, pick, many, word, after, made, means, may, flag, optional, listed}
use Rattle.lb_readt.specs.Tokens.{column_at, count_at, name_at, word_at}
use Rattle.lb_reade.specs.Expressions.{unnamed_at, Readers, called_at, cond_at, expr_at, mixed_at, parens, rest_at}

-- ---- queries

-- [[AS] name]
unfoldable pub alias_at : Reader (Option (List ℕ))
alias_at = pick (only kinds.As) (after kinds.As (made Some name_at)) (optional names name_at)

unfoldable pub tab_at : Reader Tab
tab_at = seq name_at (λ t. made (λ c. record { table = t; correlation = c }) alias_at)

-- an item after its first factor
unfoldable pub value_on : Readers → Expr → Reader Item
value_on w x = seq (rest_at w x) (λ e. made (items.Value e) alias_at)

-- an item after its first name: `. *`, or the rest of an expression
unfoldable pub starred_on : Readers → Option Call × List ℕ → Reader Item
starred_on w p = pick (only kinds.Dot)
    (after kinds.Dot (pick (only kinds.Star) (means kinds.Star (items.AllOf p.1)) (seq name_at (λ m. value_on w (a_column (of_table p.1 m))))))
    (seq (called_at w p.0 p.1) (value_on w))

unfoldable pub item_at : Readers → Reader Item
item_at w = pick names (seq word_at (starred_on w)) (seq (unnamed_at w) (value_on w))

unfoldable pub items_at : Readers → Reader (List Item)
items_at w = pick (only kinds.Star) (means kinds.Star (items.Everything ∷ [])) (listed (item_at w))

-- JOIN tab ON cond
unfoldable pub joined_at : Readers → Reader (Tab × Cond)
joined_at w = after kinds.Join (seq tab_at (λ t. after kinds.On (made (λ c. (t, c)) (cond_at w))))

unfoldable pub join_at : Readers → Reader Join
join_at w =
    pick (only kinds.Left) (after kinds.Left (seq (may kinds.Outer) (λ _. made (λ p. joins.Left p.0 p.1) (joined_at w))))
    (pick (only kinds.Cross) (after kinds.Cross (after kinds.Join (made joins.Cross tab_at)))
    (seq (may kinds.Inner) (λ _. made (λ p. joins.Inner p.0 p.1) (joined_at w))))

-- what begins a join
abbrev pub in_join : Kinds
in_join = only kinds.Left ++ only kinds.Cross ++ only kinds.Inner ++ only kinds.Join

unfoldable pub chain_at : Readers → Reader Chain
chain_at w = seq tab_at (λ t. made (λ js. roll-Chain (record { first = t; joins = js })) (many in_join (join_at w)))

-- [WHERE cond]
unfoldable pub where_at : Readers → Reader (Option Cond)
where_at w = optional (only kinds.Where) (after kinds.Where (cond_at w))

-- [GROUP BY col {, col}]
unfoldable pub group_at : Reader (List Column)
group_at = pick (only kinds.Group) (after kinds.Group (after kinds.By (listed column_at))) (give [])

-- [HAVING cond]
unfoldable pub having_at : Readers → Reader (Option Cond)
having_at w = optional (only kinds.Having) (after kinds.Having (cond_at w))

unfoldable pub query_at : Readers → Reader Query
query_at w = after kinds.Select (seq (flag kinds.Distinct) (λ d. seq (items_at w) (λ is. after kinds.From (seq (listed (chain_at w)) (λ cs. seq (where_at w) (λ f. seq group_at (λ g.
    made (λ h. roll-Query (record { distinct = d; items = is; from = cs; filter = f; group = g; having = h })) (having_at w))))))))

-- [ASC | DESC]
unfoldable pub direction_at : Reader Direction
direction_at = pick (only kinds.Asc) (means kinds.Asc directions.Ascending) (pick (only kinds.Desc) (means kinds.Desc directions.Descending) (give directions.Ascending))

-- expr [ASC | DESC]
unfoldable pub sort_key_at : Readers → Reader SortKey
sort_key_at w = seq (expr_at w) (λ e. made (λ d. record { by = e; direction = d }) direction_at)

-- [order], no key where it is absent
unfoldable pub order_at : Readers → Reader (List SortKey)
order_at w = pick (only kinds.Order) (after kinds.Order (after kinds.By (listed (sort_key_at w)))) (give [])

-- [int], 1 where it is absent
unfoldable pub row_count_at : Reader ℤ
row_count_at = pick (only kinds.Numeral) count_at (give (pos 1))

unfoldable pub fetch_at : Reader ℤ
fetch_at = after kinds.Fetch (after kinds.First (seq row_count_at (λ n. seq (pick (only kinds.Row) (word kinds.Row) (word kinds.Rows)) (λ _. means kinds.Only n))))

-- [fetch]
unfoldable pub may_fetch_at : Reader (Option ℤ)
may_fetch_at = optional (only kinds.Fetch) fetch_at

-- query [order] [fetch]
unfoldable pub select_at : Readers → Reader Select
select_at w = seq (query_at w) (λ q. seq (order_at w) (λ o. made (λ f. record { query = q; order = o; fetch = f }) may_fetch_at))

-- ---- writes

-- expr {, expr}
unfoldable pub in_row_at : Readers → Reader (List Expr)
in_row_at w = listed w.expr

unfoldable pub row_at : Readers → Reader (List Expr)
row_at w = parens w (in_row_at w)

-- VALUES row {, row} | query [order] [fetch]
unfoldable pub source_at : Readers → Reader InsertSource
source_at w = pick (only kinds.Values) (after kinds.Values (made sources.Rows (listed (row_at w)))) (made sources.Query (select_at w))

-- ["(" name {, name} ")"]
unfoldable pub targets_at : Readers → Reader (Option (List (List ℕ)))
targets_at w = optional (only kinds.Open) (parens w (listed name_at))

unfoldable pub insert_at : Readers → Reader Insert
insert_at w = after kinds.Insert (after kinds.Into (seq name_at (λ t. seq (targets_at w) (λ cs. made (λ s. record { table = t; columns = cs; source = s }) (source_at w)))))

-- name = expr
unfoldable pub assignment_at : Readers → Reader Assignment
assignment_at w = seq name_at (λ c. after kinds.Equal (made (λ v. record { column = c; value = v }) (expr_at w)))

unfoldable pub update_at : Readers → Reader Update
update_at w = after kinds.Update (seq tab_at (λ t. after kinds.Set (seq (listed (assignment_at w)) (λ as'. made (λ f. record { target = t; assignments = as'; filter = f }) (where_at w)))))

unfoldable pub delete_at : Readers → Reader Delete
delete_at w = after kinds.Delete (after kinds.From (seq tab_at (λ t. made (λ f. record { target = t; filter = f }) (where_at w))))

-- query [order] [fetch] | insert | update | delete
unfoldable pub query_or_write_at : Readers → Reader Stmt
query_or_write_at w =
    pick (only kinds.Select) (made stmts.Select (select_at w))
    (pick (only kinds.Insert) (made stmts.Insert (insert_at w))
    (pick (only kinds.Update) (made stmts.Update (update_at w))
    (made stmts.Delete (delete_at w))))

-- ---- brackets up to a depth

-- the readers in brackets where d brackets may open; where none may, nothing is read in one
unfoldable pub readers : ℕ → Readers
readers zero = record { room = false; expr = stop deep; mixed = stop deep; condition = stop deep; query = stop deep }
readers (suc d) = record { room = true; expr = expr_at (readers d); mixed = mixed_at (readers d); condition = cond_at (readers d); query = query_at (readers d) }

-- what was read, where no token is left
abbrev pub ended : {A : Type 0} → A → Reader A
ended x [] = got x []
ended x (t ∷ ts) = stop bad (t ∷ ts)

-- a query or a write, and nothing after it
unfoldable pub statement_at : ℕ → Reader Stmt
statement_at d = seq (query_or_write_at (readers d)) ended
