-- Statements, permissions and masks whose names or types are refused, or not, written out as trees.
use Rattle.std.specs.Prelude.{true, [], ◌∷◌, Some, None}
use Rattle.lb_tree.specs.declared.query.Aggregate.TheVariants as aggregates
use Rattle.lb_tree.specs.declared.query.Function.TheVariants as functions
use Rattle.lb_tree.specs.declared.query.Atom.TheVariants as atoms
use Rattle.lb_tree.specs.declared.query.Expr.{Expr}
use Rattle.lb_tree.specs.declared.query.Expr.TheVariants as exprs
use Rattle.lb_tree.specs.declared.query.Cond.{Cond}
use Rattle.lb_tree.specs.declared.query.Cond.TheVariants as conds
use Rattle.lb_tree.specs.declared.query.Item.TheVariants as items
use Rattle.lb_tree.specs.declared.query.Join.TheVariants as joins
use Rattle.lb_tree.specs.declared.query.Cond.TheViews.{roll-Query, roll-Arm}
use Rattle.lb_tree.specs.declared.query.Select.{Select}
use Rattle.lb_stmt.specs.declared.write.Stmt.{Stmt}
use Rattle.lb_stmt.specs.declared.write.Stmt.TheVariants as stmts
use Rattle.lb_stmt.specs.declared.write.InsertSource.TheVariants as sources
use Rattle.lb_names.specs.Small.{a, b, c, d, k, l, p, q, t, u, w, x, col, of, int, one, word, plus, equals, sum_of, one_where, table, alias, chain, from, show, column, column_of, grouped, query, key, ordered, select, insert, set}

-- ---- names

-- SELECT 1 FROM U JOIN K ON W.A = 1 JOIN W ON 1 = 1: ON sees its chain up to its own table
abbrev pub on_before_its_table : Stmt
on_before_its_table = select (query (show one ∷ []) (chain (table u) (joins.Inner (table k) (equals (of w a) one) ∷ joins.Inner (table w) (equals one one) ∷ []) ∷ []) None)

-- INSERT INTO K (A, C, A) VALUES (X, 1): columns are looked up before target columns
abbrev pub column_before_targets : Stmt
column_before_targets = insert k (Some (a ∷ c ∷ a ∷ [])) (sources.Rows ((col x ∷ one ∷ []) ∷ []))

-- INSERT INTO K (A, A, C) VALUES (SECLABEL('Q', 'x')): and target columns before policies
abbrev pub target_twice : Stmt
target_twice = insert k (Some (a ∷ a ∷ c ∷ [])) (sources.Rows ((exprs.Atom (atoms.SecLabel q (120 ∷ [])) ∷ []) ∷ []))

-- INSERT INTO T (L) VALUES (SECLABEL('P', 'x'))
abbrev pub no_label_text : Stmt
no_label_text = insert t (Some (l ∷ [])) (sources.Rows ((exprs.Atom (atoms.SecLabel p (120 ∷ [])) ∷ []) ∷ []))

-- INSERT INTO T (L) VALUES (SECLABEL('P', 'x'), SECLABEL('Q', 'x')): and policies before label texts
abbrev pub policy_before_text : Stmt
policy_before_text = insert t (Some (l ∷ [])) (sources.Rows ((exprs.Atom (atoms.SecLabel p (120 ∷ [])) ∷ exprs.Atom (atoms.SecLabel q (120 ∷ [])) ∷ []) ∷ []))

-- UPDATE K SET B = B, B = 'x', Q = 1 WHERE X = 1
abbrev pub column_of_where : Stmt
column_of_where = stmts.Update (record { target = table k; assignments = set b (col b) ∷ set b word ∷ set q one ∷ []; filter = Some (equals (col x) one) })

-- DELETE FROM K X WHERE EXISTS (SELECT 1 FROM K X WHERE X.A = 1) AND K.A = 1
abbrev pub target_by_its_alias : Stmt
target_by_its_alias = stmts.Delete (record { target = alias k x; filter = Some (conds.And (conds.Exists (query (show one ∷ []) (from (alias k x)) (Some (equals (of x a) one))) ∷ equals (of k a) one ∷ [])) })

-- SELECT A X FROM K ORDER BY CASE WHEN EXISTS (SELECT X FROM W) THEN 1 END: only a whole key is an output name
abbrev pub output_name_inside : Stmt
output_name_inside = stmts.Select (ordered (query (items.Value (col a) (Some x) ∷ []) (from (table k)) None) (key (one_where (conds.Exists (query (show (col x) ∷ []) (from (table w)) None))) ∷ []))

-- permission on K: EXISTS (SELECT CASE WHEN EXISTS (SELECT 1 FROM W) THEN 1 END FROM U, Q W): the name W is taken, though it comes later
abbrev pub enclosing_name_reused : Cond
enclosing_name_reused = conds.Exists (query (show (one_where (conds.Exists (query (show one ∷ []) (from (table w)) None))) ∷ []) (chain (table u) [] ∷ chain (alias q w) [] ∷ []) None)

-- ---- types

-- SELECT * FROM W GROUP BY A: a `*` stands for its columns
abbrev pub star_beside_group : Stmt
star_beside_group = select (grouped (items.Everything ∷ []) (from (table w)) None (column a ∷ []) None)

-- SELECT A FROM W WHERE SUM(A) = 1: the aggregate makes no groups
abbrev pub sum_in_where : Stmt
sum_in_where = select (query (show (col a) ∷ []) (from (table w)) (Some (equals (sum_of (col a)) one)))

-- SELECT 1 FROM W HAVING SUM(CASE WHEN EXISTS (SELECT * FROM K HAVING 1 = 1) THEN 1 END) = 1: the aggregate names columns of another query
abbrev pub star_in_sum : Stmt
star_in_sum = select (grouped (show one ∷ []) (from (table w)) None [] (Some (equals (sum_of (one_where (conds.Exists (grouped (items.Everything ∷ []) (from (table k)) None [] (Some (equals one one)))))) one)))

-- SELECT 1 FROM U JOIN K ON U.A = K.A AND EXISTS (SELECT NULL + 'x' FROM W): the sum is broken before the condition is
abbrev pub sum_in_on : Stmt
sum_in_on = select (query (show one ∷ []) (chain (table u) (joins.Inner (table k) (conds.And (equals (of u a) (of k a) ∷ conds.Exists (query (show (plus (exprs.Atom atoms.Null) word) ∷ []) (from (table w)) None) ∷ [])) ∷ []) ∷ []) None)

-- SELECT CASE WHEN A IN (SELECT K.A FROM K WHERE K.A IN (SELECT W.A FROM W)) THEN 1 END FROM W: the outer subquery
abbrev pub subquery_in_items : Stmt
subquery_in_items = select (query (show (one_where (conds.InQuery (col a) (query (show (of k a) ∷ []) (from (table k)) (Some (conds.InQuery (of k a) (query (show (of w a) ∷ []) (from (table w)) None)))))) ∷ []) (from (table w)) None)

-- SELECT A FROM K GROUP BY A HAVING A IN (SELECT U.A FROM U GROUP BY U.A, K.B HAVING K.A = MAX(U.A)): K.B is no grouping column
abbrev pub group_of_outer_column : Stmt
group_of_outer_column = select (grouped (show (col a) ∷ []) (from (table k)) None (column a ∷ []) (Some (conds.InQuery (col a) (grouped (show (of u a) ∷ []) (from (table u)) None (column_of u a ∷ column_of k b ∷ []) (Some (equals (of k a) (exprs.Aggregate aggregates.Max (of u a))))))))

-- INSERT INTO K VALUES (1, 'x'), (1, 2 + 'x', 3), ('x', 1): the first value of a row with too many
abbrev pub too_many_values : Stmt
too_many_values = insert k None (sources.Rows ((one ∷ word ∷ []) ∷ (one ∷ plus (int 2) word ∷ int 3 ∷ []) ∷ (word ∷ one ∷ []) ∷ []))

-- SELECT A, A FROM K ORDER BY LENGTH(1)
abbrev pub two_outputs : Select
two_outputs = ordered (query (show (col a) ∷ show (col a) ∷ []) (from (table k)) None) (key (exprs.Apply functions.Length one) ∷ [])

-- INSERT INTO W (A) SELECT A, A FROM K ORDER BY LENGTH(1): the query, before its ORDER BY
abbrev pub too_many_outputs : Stmt
too_many_outputs = insert w (Some (a ∷ [])) (sources.Query two_outputs)

-- SELECT K.*, L FROM K, T ORDER BY 3: a label doesn't stand in ORDER BY
abbrev pub by_a_label : Select
by_a_label = ordered (query (items.AllOf k ∷ show (col l) ∷ []) (chain (table k) [] ∷ chain (table t) [] ∷ []) None) (key (int 3) ∷ [])

-- SELECT DISTINCT W.* FROM W, K ORDER BY B: the key is no select item
abbrev pub by_another_column : Select
by_another_column = ordered (roll-Query (record { distinct = true; items = items.AllOf w ∷ []; from = chain (table w) [] ∷ chain (table k) [] ∷ []; filter = None; group = []; having = None })) (key (col b) ∷ [])

-- permission on K: A IN (SELECT * FROM W)
abbrev pub stored_star : Cond
stored_star = conds.InQuery (col a) (query (items.Everything ∷ []) (from (table w)) None)

-- permission on K: EXISTS (SELECT W.*, 1 + 'x' FROM W GROUP BY A)
abbrev pub stored_star_beside_group : Cond
stored_star_beside_group = conds.Exists (grouped (items.AllOf w ∷ show (plus one word) ∷ []) (from (table w)) None (column a ∷ []) None)

-- mask on K, column A: CASE WHEN A IN (SELECT W.A FROM W) THEN A ELSE COUNT(*) END
abbrev pub count_in_mask : Expr
count_in_mask = exprs.Case (roll-Arm (record { when = conds.InQuery (col a) (query (show (of w a) ∷ []) (from (table w)) None); result = col a }) ∷ []) (Some (exprs.Atom atoms.CountRows))

-- ---- a stored condition, as it is given and as it is kept

-- permission on K: A = 1 AND EXISTS (SELECT D FROM U WHERE B = 'x')
abbrev pub unqualified : Cond
unqualified = conds.And (equals (col a) one ∷ conds.Exists (query (show (col d) ∷ []) (from (table u)) (Some (equals (col b) word))) ∷ [])

-- K.A = 1 AND EXISTS (SELECT U.D FROM U WHERE U.B = 'x')
abbrev pub with_its_names : Cond
with_its_names = conds.And (equals (of k a) one ∷ conds.Exists (query (show (of u d) ∷ []) (from (table u)) (Some (equals (of u b) word))) ∷ [])
