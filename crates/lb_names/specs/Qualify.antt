-- A condition or CASE with each of its columns qualified, as a permission or a mask stores it.
use Rattle.std.specs.Prelude.{List, [], ◌∷◌, ◌++◌, map, Option, Some, option_map, Ok, Err}
use Rattle.std.specs.List.{flat_map}
use Rattle.lb_tree.specs.declared.query.Atom.{Atom}
use Rattle.lb_tree.specs.declared.query.Atom.TheVariants as atoms
use Rattle.lb_tree.specs.declared.query.Column.{Column}
use Rattle.lb_tree.specs.declared.query.Tab.{Tab}
use Rattle.lb_tree.specs.declared.query.Expr.{Expr}
use Rattle.lb_tree.specs.declared.query.Cond.{Cond}
use Rattle.lb_tree.specs.declared.query.Item.{Item}
use Rattle.lb_tree.specs.declared.query.Join.{Join}
use Rattle.lb_tree.specs.declared.query.Arm.{Arm}
use Rattle.lb_tree.specs.declared.query.Chain.{Chain}
use Rattle.lb_tree.specs.declared.query.Choice.{Choice}
use Rattle.lb_tree.specs.declared.query.Query.{Query}
use Rattle.lb_tree.specs.declared.query.Signed.{Signed}
use Rattle.lb_tree.specs.declared.query.Cond.TheOpen as layers
use Rattle.lb_tree.specs.declared.query.Cond.TheViews.{roll-Cond, roll-Expr, roll-Item, roll-Join, roll-Arm, roll-Chain, roll-Choice, roll-Query, roll-Signed}
use Rattle.lb_tree.specs.Folds.{Kinds, Layer, Steps, Written, cond_of, expr_of}
use Rattle.lb_names.specs.declared.place.Seen.{Seen}
use Rattle.lb_names.specs.Sights.{correlation, items_in}
use Rattle.lb_names.specs.Scopes.{Catalogue, Resolved, resolve}

-- the column with the correlation name of the item that was found
abbrev pub by_item : Column → Resolved → Column
by_item c (Ok x) = record { correlation = Some (correlation x.item.tab); name = c.name }
by_item c (Err n) = c

-- the column with the correlation name of its FROM item; as it is written where its name is unknown
abbrev pub with_item : Catalogue → List Seen → Column → Column
with_item C seen c = by_item c (resolve C seen c)

-- a leaf with its column qualified
abbrev pub atom_in : Catalogue → List Seen → Atom → Atom
atom_in C seen (atoms.Column c) = atoms.Column (with_item C seen c)
atom_in C seen (atoms.SecLabelToChar p c) = atoms.SecLabelToChar p (with_item C seen c)
atom_in C seen a = a

-- ---- what each kind of node gives

-- a part, qualified where these items are in sight
pub record In (A : Type 0) : Type 0 where
  pub at : List Seen → A

-- a join, and its table
pub record JoinIn : Type 0 where
  pub tab : Tab
  -- what is in sight is what its ON condition sees
  pub join : List Seen → Join

-- a chain, and its tables
pub record ChainIn : Type 0 where
  pub tabs : List Tab
  -- what is in sight is what the enclosing query sees
  pub chain : List Seen → Chain

-- each kind of node gives its qualified form
abbrev pub qualifying : Kinds
qualifying = record { cond = In Cond; expr = In Expr; item = In Item; join = JoinIn; arm = In Arm; chain = ChainIn; choice = In Choice; query = In Query; signed = In Signed }

-- all parts where these items are in sight
abbrev pub all_at : {A : Type 0} → List Seen → List (In A) → List A
all_at seen xs = map (λ x. x.at seen) xs

-- a part that may be missing
abbrev pub any_at : {A : Type 0} → List Seen → Option (In A) → Option A
any_at seen x = option_map (λ y. y.at seen) x

-- an expression with qualified parts
abbrev pub expr_in : Catalogue → List Seen → Layer qualifying layers.Expr-F → Written layers.Expr-F
expr_in C seen (layers.Expr-F.Atom a) = layers.Expr-F.Atom (atom_in C seen a)
expr_in C seen (layers.Expr-F.Sum xs) = layers.Expr-F.Sum (all_at seen xs)
expr_in C seen (layers.Expr-F.Concat xs) = layers.Expr-F.Concat (all_at seen xs)
expr_in C seen (layers.Expr-F.Product xs) = layers.Expr-F.Product (all_at seen xs)
expr_in C seen (layers.Expr-F.Case arms otherwise) = layers.Expr-F.Case (all_at seen arms) (any_at seen otherwise)
expr_in C seen (layers.Expr-F.Match x choices otherwise) = layers.Expr-F.Match (x.at seen) (all_at seen choices) (any_at seen otherwise)
expr_in C seen (layers.Expr-F.Aggregate op x) = layers.Expr-F.Aggregate op (x.at seen)
expr_in C seen (layers.Expr-F.Substr x from n) = layers.Expr-F.Substr (x.at seen) (from.at seen) (any_at seen n)
expr_in C seen (layers.Expr-F.Apply f x) = layers.Expr-F.Apply f (x.at seen)
expr_in C seen (layers.Expr-F.Coalesce xs) = layers.Expr-F.Coalesce (all_at seen xs)

-- a condition with qualified parts
abbrev pub cond_in : List Seen → Layer qualifying layers.Cond-F → Written layers.Cond-F
cond_in seen (layers.Cond-F.Or xs) = layers.Cond-F.Or (all_at seen xs)
cond_in seen (layers.Cond-F.And xs) = layers.Cond-F.And (all_at seen xs)
cond_in seen (layers.Cond-F.Not x) = layers.Cond-F.Not (x.at seen)
cond_in seen (layers.Cond-F.Exists q) = layers.Cond-F.Exists (q.at seen)
cond_in seen (layers.Cond-F.Compare by a b) = layers.Cond-F.Compare by (a.at seen) (b.at seen)
cond_in seen (layers.Cond-F.CompareQuery by a q) = layers.Cond-F.CompareQuery by (a.at seen) (q.at seen)
cond_in seen (layers.Cond-F.IsNull a) = layers.Cond-F.IsNull (a.at seen)
cond_in seen (layers.Cond-F.InQuery a q) = layers.Cond-F.InQuery (a.at seen) (q.at seen)
cond_in seen (layers.Cond-F.InList a xs) = layers.Cond-F.InList (a.at seen) (all_at seen xs)
cond_in seen (layers.Cond-F.Between a low high) = layers.Cond-F.Between (a.at seen) (low.at seen) (high.at seen)

-- an item with qualified parts
abbrev pub item_in : List Seen → Layer qualifying layers.Item-F → Written layers.Item-F
item_in seen layers.Item-F.Everything = layers.Item-F.Everything
item_in seen (layers.Item-F.AllOf x) = layers.Item-F.AllOf x
item_in seen (layers.Item-F.Value x name) = layers.Item-F.Value (x.at seen) name

-- a join with a qualified ON condition
abbrev pub join_in : Layer qualifying layers.Join-F → JoinIn
join_in (layers.Join-F.Inner tab on) = record { tab = tab; join = λ seen. roll-Join (layers.Join-F.Inner tab (on.at seen)) }
join_in (layers.Join-F.Left tab on) = record { tab = tab; join = λ seen. roll-Join (layers.Join-F.Left tab (on.at seen)) }
join_in (layers.Join-F.Cross tab) = record { tab = tab; join = λ seen. roll-Join (layers.Join-F.Cross tab) }

-- the joins of a chain after these tables of it, in a query that stands where the first items are in sight
abbrev pub joins_in : List Tab → List JoinIn → List Seen → List Join
joins_in tabs [] outer = []
joins_in tabs (j ∷ js) outer = j.join (items_in outer (tabs ++ j.tab ∷ []) ++ outer) ∷ joins_in (tabs ++ j.tab ∷ []) js outer

-- a chain with qualified joins
abbrev pub chain_in : Layer qualifying layers.Chain-F → ChainIn
chain_in x = record { tabs = x.first ∷ map (λ j. j.tab) x.joins; chain = λ outer. roll-Chain (record { first = x.first; joins = joins_in (x.first ∷ []) x.joins outer }) }

-- a query that stands where the first items are in sight, its own items being in sight too
abbrev pub query_in : Catalogue → List Seen → List Seen → Layer qualifying layers.Query-F → Query
query_in C outer seen q = roll-Query (record {
  distinct = q.distinct;
  items = all_at seen q.items;
  from = map (λ c. c.chain outer) q.from;
  filter = any_at seen q.filter;
  group = map (with_item C seen) q.group;
  having = any_at seen q.having;
})

-- what a query's clauses see
abbrev pub seen_in : List Seen → List ChainIn → List Seen
seen_in outer from = items_in outer (flat_map (λ c. c.tabs) from) ++ outer

-- each kind of node by its parts
abbrev pub qualify_steps : Catalogue → Steps qualifying
qualify_steps C = record {
  cond = λ x. record { at = λ seen. roll-Cond (cond_in seen x) };
  expr = λ x. record { at = λ seen. roll-Expr (expr_in C seen x) };
  item = λ x. record { at = λ seen. roll-Item (item_in seen x) };
  join = join_in;
  arm = λ x. record { at = λ seen. roll-Arm (record { when = x.when.at seen; result = x.result.at seen }) };
  chain = chain_in;
  choice = λ x. record { at = λ seen. roll-Choice (record { when = x.when.at seen; result = x.result.at seen }) };
  query = λ q. record { at = λ outer. query_in C outer (seen_in outer q.from) q };
  signed = λ x. record { at = λ seen. roll-Signed (record { minus = x.minus; part = x.part.at seen }) };
}

-- the condition and the expression with each column qualified, where these items are in sight
unfoldable pub qualified_cond : Catalogue → Cond → List Seen → Cond
qualified_cond C c seen = (cond_of qualifying (qualify_steps C) c).at seen

-- the same of an expression
unfoldable pub qualified_expr : Catalogue → Expr → List Seen → Expr
qualified_expr C e seen = (expr_of qualifying (qualify_steps C) e).at seen
