-- The qualified form of each kind of node, as the code makes it. It stands in private contracts alone.
use Rattle.std.specs.Prelude.{List, [], ◌∷◌, ◌++◌}
use Rattle.lb_tree.specs.declared.query.Tab.{Tab}
use Rattle.lb_tree.specs.declared.query.Cond.{Cond}
use Rattle.lb_tree.specs.declared.query.Expr.{Expr}
use Rattle.lb_tree.specs.declared.query.Item.{Item}
use Rattle.lb_tree.specs.declared.query.Join.{Join}
use Rattle.lb_tree.specs.declared.query.Arm.{Arm}
use Rattle.lb_tree.specs.declared.query.Chain.{Chain}
use Rattle.lb_tree.specs.declared.query.Choice.{Choice}
use Rattle.lb_tree.specs.declared.query.Query.{Query}
use Rattle.lb_tree.specs.declared.query.Signed.{Signed}
use Rattle.lb_tree.specs.Folds.{cond_of, expr_of, item_of, join_of, arm_of, chain_of, choice_of, query_of, signed_of}
use Rattle.lb_names.specs.declared.place.Seen.{Seen}
use Rattle.lb_names.specs.Sights.{items_in}
use Rattle.lb_names.specs.Marks.{marked, mark_steps}
use Rattle.lb_names.specs.Qualify.{qualifying, qualify_steps}
use Rattle.lb_scope.specs.Found.{catalogue}
use Rattle.lb_qualify.specs.declared.leaf.Qualifier.{Qualifier}

-- the table of a join
abbrev pub tab_of : Join → Tab
tab_of j = (join_of marked mark_steps j).tab

module _ (q : Qualifier) where
  -- where these items are in sight
  unfoldable pub in_cond : Cond → List Seen → Cond
  in_cond c seen = (cond_of qualifying (qualify_steps (catalogue q.catalog.now)) c).at seen

  unfoldable pub in_expr : Expr → List Seen → Expr
  in_expr e seen = (expr_of qualifying (qualify_steps (catalogue q.catalog.now)) e).at seen

  unfoldable pub in_item : Item → List Seen → Item
  in_item i seen = (item_of qualifying (qualify_steps (catalogue q.catalog.now)) i).at seen

  unfoldable pub in_arm : Arm → List Seen → Arm
  in_arm a seen = (arm_of qualifying (qualify_steps (catalogue q.catalog.now)) a).at seen

  unfoldable pub in_choice : Choice → List Seen → Choice
  in_choice c seen = (choice_of qualifying (qualify_steps (catalogue q.catalog.now)) c).at seen

  unfoldable pub in_signed : Signed → List Seen → Signed
  in_signed s seen = (signed_of qualifying (qualify_steps (catalogue q.catalog.now)) s).at seen

  -- the items that are in sight are those of the queries round it
  unfoldable pub in_query : Query → List Seen → Query
  in_query x outer = (query_of qualifying (qualify_steps (catalogue q.catalog.now)) x).at outer

  unfoldable pub in_chain : Chain → List Seen → Chain
  in_chain x outer = (chain_of qualifying (qualify_steps (catalogue q.catalog.now)) x).chain outer

  -- the items that are in sight are those that its ON condition sees
  unfoldable pub in_join : Join → List Seen → Join
  in_join j seen = (join_of qualifying (qualify_steps (catalogue q.catalog.now)) j).join seen

  -- the joins of a chain after these tables of it
  abbrev pub in_joins : List Tab → List Join → List Seen → List Join
  in_joins tabs [] outer = []
  in_joins tabs (j ∷ js) outer = in_join j (items_in outer (tabs ++ tab_of j ∷ []) ++ outer) ∷ in_joins (tabs ++ tab_of j ∷ []) js outer
