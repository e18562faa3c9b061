-- The first refusal of a pass over each kind of part, as the code goes through it. It stands in private contracts alone.
use Rattle.std.specs.Prelude.{Option, None, Some, List, [], ◌∷◌, ◌++◌}
use Rattle.lb_tree.specs.declared.query.Tab.{Tab}
use Rattle.lb_tree.specs.declared.query.Column.{Column}
use Rattle.lb_tree.specs.declared.query.Cond.{Cond}
use Rattle.lb_tree.specs.declared.query.Expr.{Expr}
use Rattle.lb_tree.specs.declared.query.Item.{Item}
use Rattle.lb_tree.specs.declared.query.Join.{Join}
use Rattle.lb_tree.specs.declared.query.Arm.{Arm}
use Rattle.lb_tree.specs.declared.query.Chain.{Chain}
use Rattle.lb_tree.specs.declared.query.Choice.{Choice}
use Rattle.lb_tree.specs.declared.query.Query.{Query}
use Rattle.lb_tree.specs.declared.query.Signed.{Signed}
use Rattle.lb_tree.specs.declared.query.Atom.{Atom}
use Rattle.lb_tree.specs.declared.query.SortKey.{SortKey}
use Rattle.lb_tree.specs.declared.query.Select.{Select}
use Rattle.lb_tree.specs.declared.query.Cond.TheOpen as layers
use Rattle.lb_tree.specs.declared.query.Cond.TheViews.{out-Query}
use Rattle.lb_stmt.specs.declared.write.Assignment.{Assignment}
use Rattle.lb_stmt.specs.declared.write.InsertSource.{InsertSource}
use Rattle.lb_stmt.specs.declared.write.InsertSource.TheVariants as sources
use Rattle.lb_stmt.specs.declared.write.Stmt.{Stmt}
use Rattle.lb_stmt.specs.declared.write.Stmt.TheVariants as stmts
use Rattle.lb_tree.specs.Folds.{Written, cond_of, expr_of, item_of, join_of, arm_of, chain_of, choice_of, query_of, signed_of}
use Rattle.lb_names.specs.declared.place.Seen.{Seen}
use Rattle.lb_names.specs.declared.refused.Refused.{Refused}
use Rattle.lb_names.specs.Sights.{Name, Sight, correlation, calls_of, nothing, inside}
use Rattle.lb_names.specs.Marks.{item, column, marked, mark_steps, atom_marks, tables_of_chain}
use Rattle.lb_names.specs.SortNames.{or_else, meant}
use Rattle.lb_names.specs.StatementMarks.{over, target_of, order_sight}
use Rattle.lb_names.specs.Passes.{first}
use Rattle.lb_resolve.specs.declared.mark.Walk.{Walk}
use Rattle.lb_resolve.specs.Passing.{asked}

-- the first of all parts in order
abbrev pub of_all : {A : Type 0} → (A → Sight → Option Refused) → List A → Sight → Option Refused
of_all f [] v = None
of_all f (x ∷ xs) v = or_else (f x v) (of_all f xs v)

-- of a part that may be missing
abbrev pub of_maybe : {A : Type 0} → (A → Sight → Option Refused) → Option A → Sight → Option Refused
of_maybe f None v = None
of_maybe f (Some x) v = f x v

-- the table of a join
abbrev pub tab_of : Join → Tab
tab_of j = (join_of marked mark_steps j).tab

module _ (w : Walk) where
  -- of each kind of node
  unfoldable pub in_cond : Cond → Sight → Option Refused
  in_cond c v = first (asked w) ((cond_of marked mark_steps c).marks v)

  unfoldable pub in_expr : Expr → Sight → Option Refused
  in_expr e v = first (asked w) ((expr_of marked mark_steps e).marks v)

  unfoldable pub in_item : Item → Sight → Option Refused
  in_item i v = first (asked w) ((item_of marked mark_steps i).marks v)

  unfoldable pub in_arm : Arm → Sight → Option Refused
  in_arm a v = first (asked w) ((arm_of marked mark_steps a).marks v)

  unfoldable pub in_choice : Choice → Sight → Option Refused
  in_choice c v = first (asked w) ((choice_of marked mark_steps c).marks v)

  unfoldable pub in_signed : Signed → Sight → Option Refused
  in_signed s v = first (asked w) ((signed_of marked mark_steps s).marks v)

  unfoldable pub in_query : Query → Sight → Option Refused
  in_query q v = first (asked w) ((query_of marked mark_steps q).marks v)

  -- of a leaf
  abbrev pub in_atom : Atom → Sight → Option Refused
  in_atom a v = first (asked w) (atom_marks a v)

  -- of the columns of GROUP BY
  abbrev pub in_group : List Seen → List Column → Option Refused
  in_group seen [] = None
  in_group seen (c ∷ cs) = or_else (asked w (column seen c)) (in_group seen cs)

  -- of the ON condition of a join
  unfoldable pub in_on : Join → Sight → Option Refused
  in_on j v = first (asked w) ((join_of marked mark_steps j).on v)

  -- what an ON condition sees: these tables of its chain; these names are taken
  abbrev pub on_sight : Sight → List Name → List Tab → Sight
  on_sight outer taken tabs = record (inside outer tabs) { around = taken }

  -- of a join after these correlation names of the query, whose ON condition sees these tables; those names that are taken are given
  abbrev pub in_join : Sight → List Name → List Name → List Tab → Join → Option Refused
  in_join outer taken before tabs j = or_else (asked w (item before outer.around (tab_of j))) (in_on j (on_sight outer taken tabs))

  -- of the joins of a chain after these correlation names of the query, and after these tables of the chain
  abbrev pub in_joins : Sight → List Name → List Name → List Tab → List Join → Option Refused
  in_joins outer taken before tabs [] = None
  in_joins outer taken before tabs (j ∷ joins) =
      or_else (in_join outer taken before (tabs ++ tab_of j ∷ []) j)
      (in_joins outer taken (before ++ correlation (tab_of j) ∷ []) (tabs ++ tab_of j ∷ []) joins)

  -- of a chain
  abbrev pub in_chain : Sight → List Name → List Name → Chain → Option Refused
  in_chain outer taken before ch =
      or_else (asked w (item before outer.around ch.first))
      (in_joins outer taken (before ++ correlation ch.first ∷ []) (ch.first ∷ []) ch.joins)

  -- of the chains after these correlation names of the query
  abbrev pub in_chains : Sight → List Name → List Name → List Chain → Option Refused
  in_chains outer taken before [] = None
  in_chains outer taken before (ch ∷ chains) =
      or_else (in_chain outer taken before ch)
      (in_chains outer taken (before ++ calls_of (tables_of_chain (chain_of marked mark_steps ch))) chains)

  -- of the clauses of a query that stands in the one sight, and whose clauses see the other
  abbrev pub in_clauses : Written layers.Query-F → Sight → Sight → Option Refused
  in_clauses q outer inner =
      or_else (of_all in_item q.items inner)
      (or_else (in_chains outer inner.around [] q.from)
      (or_else (of_maybe in_cond q.filter inner)
      (or_else (in_group inner.seen q.group)
      (of_maybe in_cond q.having inner))))

  -- ---- statements

  -- of a key of ORDER BY of a query with these items
  abbrev pub in_meant : Sight → Expr → Option Expr → Option Refused
  in_meant v e (Some f) = None
  in_meant v e None = in_expr e v

  abbrev pub in_key : List Item → Sight → Expr → Option Refused
  in_key items v e = in_meant v e (meant items e)

  -- of all keys
  abbrev pub in_keys : List Item → Sight → List SortKey → Option Refused
  in_keys items v [] = None
  in_keys items v (k ∷ ks) = or_else (in_key items v k.by) (in_keys items v ks)

  -- of a query with its ORDER BY
  abbrev pub in_select : Select → Option Refused
  in_select s = or_else (in_query s.query nothing) (in_keys (out-Query s.query).items (order_sight s) s.order)

  -- of VALUES or a source query
  abbrev pub in_source : InsertSource → Option Refused
  in_source (sources.Rows rows) = of_all (of_all in_expr) rows nothing
  in_source (sources.Query s) = in_select s

  -- of the value of column = value
  abbrev pub in_assignment : Assignment → Sight → Option Refused
  in_assignment a v = in_expr a.value v

  -- of a statement
  abbrev pub in_statement : Stmt → Option Refused
  in_statement (stmts.Select s) = in_select s
  in_statement (stmts.Insert i) = or_else (asked w (item [] [] (target_of i.table))) (in_source i.source)
  in_statement (stmts.Update u) = or_else (asked w (item [] [] u.target)) (or_else (of_all in_assignment u.assignments (over u.target)) (of_maybe in_cond u.filter (over u.target)))
  in_statement (stmts.Delete d) = or_else (asked w (item [] [] d.target)) (of_maybe in_cond d.filter (over d.target))
  in_statement (stmts.Change c) = None
