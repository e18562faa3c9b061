-- The columns that a query names, by the tables of FROM that they belong to.
use Rattle.std.specs.Prelude.{ℕ, Bool, true, false, List, [], ◌∷◌, ◌++◌, map, filter}
use Rattle.std.specs.List.{list_any, flat_map}
use Rattle.std.specs.Str.{bytes_eq}
use Rattle.lb_tree.specs.declared.query.Atom.{Atom}
use Rattle.lb_tree.specs.declared.query.Atom.TheVariants as atoms
use Rattle.lb_tree.specs.declared.query.Column.{Column}
use Rattle.lb_tree.specs.declared.query.Tab.{Tab}
use Rattle.lb_tree.specs.declared.query.Expr.{Expr}
use Rattle.lb_tree.specs.declared.query.Cond.{Cond}
use Rattle.lb_tree.specs.declared.query.Query.{Query}
use Rattle.lb_tree.specs.declared.query.Cond.TheOpen as layers
use Rattle.lb_tree.specs.Folds.{Kinds, Layer, Steps, cond_of, expr_of, query_of}
use Rattle.lb_cat.specs.declared.catalog.ColumnRec.{ColumnRec}
use Rattle.lb_mean.specs.Named.{FromItem, Named, Use, Uses, ItemUses, JoinUses, Joining, QueryUses, no_uses, and_then, all_uses, if_used, plainly, name_of_item, is_outer, named_through, joinings}

-- what is told of each kind of node
abbrev pub using : Kinds
using = record { cond = Uses; expr = Uses; item = ItemUses; join = JoinUses; arm = Uses; chain = List Joining; choice = Uses; query = QueryUses; signed = Uses }

-- ---- expressions and conditions

-- the columns of an expression without parts
abbrev pub atom_columns : Atom → List Column
atom_columns (atoms.Column c) = c ∷ []
atom_columns (atoms.SecLabelToChar policy c) = c ∷ []
atom_columns _ = []

-- a column and nothing else
abbrev pub is_column_alone : Atom → Bool
is_column_alone (atoms.Column c) = true
is_column_alone _ = false

-- the same column within an aggregate
abbrev pub within_aggregate : Named → Named
within_aggregate n = record n { aggregated = true }

-- what an expression names
abbrev pub expr_uses : Layer using layers.Expr-F → Uses
expr_uses (layers.Expr-F.Atom x) = record { columns = map plainly (atom_columns x); tables = []; bare = is_column_alone x }
expr_uses (layers.Expr-F.Sum es) = all_uses es
expr_uses (layers.Expr-F.Concat es) = all_uses es
expr_uses (layers.Expr-F.Product es) = all_uses es
expr_uses (layers.Expr-F.Case arms other) = and_then (all_uses arms) (if_used other)
expr_uses (layers.Expr-F.Match e arms other) = and_then e (and_then (all_uses arms) (if_used other))
expr_uses (layers.Expr-F.Aggregate op e) = record { columns = map within_aggregate e.columns; tables = e.tables; bare = false }
expr_uses (layers.Expr-F.Substr text start count) = and_then text (and_then start (if_used count))
expr_uses (layers.Expr-F.Apply f e) = record e { bare = false }
expr_uses (layers.Expr-F.Coalesce es) = all_uses es

-- what a subquery names: its own tables, and the columns that aren't theirs
abbrev pub inside : QueryUses → Uses
inside q = q.within []

-- what a condition names
abbrev pub cond_uses : Layer using layers.Cond-F → Uses
cond_uses (layers.Cond-F.Or cs) = all_uses cs
cond_uses (layers.Cond-F.And cs) = all_uses cs
cond_uses (layers.Cond-F.Not c) = c
cond_uses (layers.Cond-F.Exists q) = inside q
cond_uses (layers.Cond-F.Compare by a b) = and_then a b
cond_uses (layers.Cond-F.CompareQuery by a q) = and_then a (inside q)
cond_uses (layers.Cond-F.IsNull a) = a
cond_uses (layers.Cond-F.InQuery a q) = and_then a (inside q)
cond_uses (layers.Cond-F.InList a es) = and_then a (all_uses es)
cond_uses (layers.Cond-F.Between a low high) = and_then a (and_then low high)

-- ---- queries

-- all that a query names but in ON, in the order of the text
abbrev pub named_in : Layer using layers.Query-F → List Named → List Named
named_in q further = flat_map (λ item. item.within.columns) q.items ++ ((if_used q.filter).columns ++ (map plainly q.group ++ ((if_used q.having).columns ++ further)))

-- the columns that ON conditions name through a table
abbrev pub named_by_on : List Joining → FromItem → List (List ℕ)
named_by_on js item = map (λ x. x.column) (filter (λ x. bytes_eq x.correlation (name_of_item item)) (flat_map (λ j. j.owned) js))

-- a table of FROM with all that is named through it
abbrev pub use_of : Layer using layers.Query-F → List Named → List Joining → FromItem → Use
use_of q further js item = record {
  item = item;
  columns = named_through item (named_in q further) ++ named_by_on js item;
  everything = list_any (λ x. x.shows item) q.items;
}

-- what a query names, whose tables stand in the order of the text
abbrev pub query_within : Layer using layers.Query-F → List Joining → List Named → Uses
query_within q js further = record {
  columns = filter (is_outer (map (λ j. j.item) js)) (named_in q further) ++ flat_map (λ j. j.outer) js;
  tables = flat_map (λ x. x.within.tables) q.items ++ (flat_map (λ j. use_of q further js j.item ∷ j.tables) js ++ ((if_used q.filter).tables ++ (if_used q.having).tables));
  bare = false;
}

-- what is told of a query
abbrev pub query_uses : Layer using layers.Query-F → QueryUses
query_uses q = record {
  within = query_within q (flat_map (λ js. js) q.from);
  from = map (λ j. j.item) (flat_map (λ js. js) q.from);
  items = q.items;
  group = q.group;
}

-- where the columns of each table are known
module _ (columns : List ℕ → List ColumnRec) where
  -- a table of FROM with its columns
  abbrev pub from_item : Tab → FromItem
  from_item tab = record { tab = tab; columns = columns tab.table }

  -- what an item of a select list names
  abbrev pub item_uses : Layer using layers.Item-F → ItemUses
  item_uses layers.Item-F.Everything = record { within = no_uses; bare = true; shows = λ item. true }
  item_uses (layers.Item-F.AllOf n) = record { within = no_uses; bare = true; shows = λ item. bytes_eq (name_of_item item) n }
  item_uses (layers.Item-F.Value e name) = record { within = e; bare = e.bare; shows = λ item. false }

  -- what a join names
  abbrev pub join_uses : Layer using layers.Join-F → JoinUses
  join_uses (layers.Join-F.Inner tab on) = record { item = from_item tab; on = on }
  join_uses (layers.Join-F.Left tab on) = record { item = from_item tab; on = on }
  join_uses (layers.Join-F.Cross tab) = record { item = from_item tab; on = no_uses }

  -- what a table with its joins names
  abbrev pub chain_uses : Layer using layers.Chain-F → List Joining
  chain_uses x = record { item = from_item x.first; owned = []; outer = []; tables = [] } ∷ joinings (from_item x.first ∷ []) x.joins

  -- what each node names, by what its parts name
  abbrev pub use_steps : Steps using
  use_steps = record {
    cond = cond_uses;
    expr = expr_uses;
    item = item_uses;
    join = join_uses;
    arm = λ x. and_then x.when x.result;
    chain = chain_uses;
    choice = λ x. and_then x.when x.result;
    query = query_uses;
    signed = λ x. x.part;
  }

  -- what an expression names
  unfoldable pub uses_in : Expr → Uses
  uses_in = expr_of using use_steps

  -- what a condition names
  unfoldable pub uses_in_cond : Cond → Uses
  uses_in_cond = cond_of using use_steps

  -- what a query names
  unfoldable pub uses_in_query : Query → QueryUses
  uses_in_query = query_of using use_steps
