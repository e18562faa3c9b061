-- The types of queries, and of whole trees. A node is numbered before its parts, these in text order.
use Rattle.std.specs.Prelude.{ℕ, Bool, true, false, not, ◌&&◌, ◌||◌, ◌==◌, if◌then◌else◌, List, [], ◌∷◌, length, Option, Some, None, Ok}
use Rattle.std.specs.List.{list_any, flat_map}
use Rattle.lb_tree.specs.declared.query.Column.{Column}
use Rattle.lb_tree.specs.declared.query.Tab.{Tab}
use Rattle.lb_tree.specs.declared.query.Cond.{Cond}
use Rattle.lb_tree.specs.declared.query.Expr.{Expr}
use Rattle.lb_tree.specs.declared.query.Item.{Item}
use Rattle.lb_tree.specs.declared.query.Join.{Join}
use Rattle.lb_tree.specs.declared.query.Arm.{Arm}
use Rattle.lb_tree.specs.declared.query.Chain.{Chain}
use Rattle.lb_tree.specs.declared.query.Choice.{Choice}
use Rattle.lb_tree.specs.declared.query.Query.{Query}
use Rattle.lb_tree.specs.declared.query.Signed.{Signed}
use Rattle.lb_tree.specs.declared.query.Cond.TheOpen as layers
use Rattle.lb_tree.specs.Folds.{Layer, Steps, cond_of, expr_of, item_of, join_of, arm_of, chain_of, choice_of, query_of, signed_of}
use Rattle.lb_names.specs.declared.place.Group.{Group}
use Rattle.lb_names.specs.Sights.{calls_of, inside}
use Rattle.lb_names.specs.Marks.{marks_in_query, tables_from}
use Rattle.lb_names.specs.Kinds.{Kind, is_label}
use Rattle.lb_names.specs.Scopes.{Catalogue, is_some, resolve, spots}
use Rattle.lb_names.specs.Typed.{Typed, next, ◌>>=◌, only_if}
use Rattle.lb_names.specs.Places.{Place, filter_place, having_place, shown_place}
use Rattle.lb_names.specs.Carriers.{Means, Says, Wanted, Shows, Joins, Chains, Arms, Choices, Role, Answers, typing, typing_marks}
use Rattle.lb_names.specs.Expressions.{kind_found, expr_step, arm_step, choice_step, signed_step}
use Rattle.lb_names.specs.Conditions.{cond_step}
use Rattle.lb_names.specs.SelectLists.{item_step, join_step, chain_step, widths, outputs_of, chains_typed}

-- the list is not empty
abbrev pub is_listed : {A : Type 0} → List A → Bool
is_listed [] = false
is_listed (x ∷ xs) = true

-- ---- a query, by its parts

-- it has GROUP BY, HAVING or an aggregate in its select list or ORDER BY
abbrev pub has_groups : Layer typing layers.Query-F → Role → Bool
has_groups q R = is_listed q.group || (is_some q.having || (R.total || list_any (λ i. i.total) q.items))

-- the columns of GROUP BY in a query with these FROM items that stands there
abbrev pub group_of : Catalogue → List Column → Place → List Tab → Group
group_of C columns P tabs = record { level = (inside P.sight tabs).level; columns = flat_map (λ c. spots (resolve C (inside P.sight tabs).seen c)) columns }

-- the groups under which its select list, HAVING and ORDER BY stand
abbrev pub groups_of : Catalogue → Layer typing layers.Query-F → Role → Place → List Group
groups_of C q R P = if has_groups q R then group_of C q.group P (tables_from typing typing_marks q) ∷ P.groups else P.groups

-- WHERE and HAVING where they are written
abbrev pub maybe_typed : Option Says → Place → ℕ → Typed (Unit {0})
maybe_typed None P n = Ok (tt, n)
maybe_typed (Some c) P n = c.typed P n

-- the node of that number is no label
abbrev pub no_label : ℕ → Kind × ℕ → Typed (Unit {0})
no_label at x = only_if (not (is_label x.0)) at (tt, x.1)

-- the columns of GROUP BY are no labels
abbrev pub group_typed : Catalogue → Place → List Column → ℕ → Typed (Unit {0})
group_typed C P [] n = Ok (tt, n)
group_typed C P (c ∷ cs) n = kind_found P n (resolve C P.sight.seen c) >>= no_label n >>= λ x. group_typed C P cs x.1

-- there are as many outputs as are wanted
abbrev pub is_width : Option (List Kind) → ℕ → Bool
is_width None n = true
is_width (Some ws) n = length ws == n

-- outputs are paired with columns only where there are as many
abbrev pub wanted_of : Layer typing layers.Query-F → Role → Place → Wanted
wanted_of q R P = record { one = R.one; grouped = is_listed q.group; distinct = q.distinct; kinds = if is_width R.wanted (widths q.items (inside P.sight (tables_from typing typing_marks q)).own) then R.wanted else None }

-- a subquery may stand there, it has one output where one is wanted, and a query as many as the columns that take them
abbrev pub query_fits : Role → Place → List Kind → Bool
query_fits R P ks = (not R.subquery || P.subqueries) && ((not R.one || (length ks == 1)) && is_width R.wanted (length ks))

-- select list, FROM, WHERE, GROUP BY, HAVING, and then the query itself
abbrev pub query_kinds : Catalogue → Layer typing layers.Query-F → List Tab → List Group → Role → Place → ℕ → Typed (List Kind)
query_kinds C q tabs groups R P at =
    outputs_of q.items [] (wanted_of q R P) (shown_place P tabs groups) (next at) >>= λ ks.
    chains_typed P (calls_of tabs) q.from ks.1 >>= λ f.
    maybe_typed q.filter (filter_place P tabs) f.1 >>= λ w.
    group_typed C (filter_place P tabs) q.group w.1 >>= λ g.
    maybe_typed q.having (having_place P tabs groups) g.1 >>= λ h.
    only_if (query_fits R P ks.0) at (ks.0, h.1)

-- a query, by its parts
abbrev pub query_step : Catalogue → Layer typing layers.Query-F → Answers
query_step C q = record {
  marks = marks_in_query typing typing_marks q;
  kinds = λ R P at. query_kinds C q (tables_from typing typing_marks q) (groups_of C q R P) R P at;
  shown = λ R P. shown_place P (tables_from typing typing_marks q) (groups_of C q R P);
}

-- ---- whole trees

-- each kind of node by its parts
abbrev pub steps : Catalogue → Steps typing
steps C = record { cond = cond_step; expr = expr_step C; item = item_step C; join = join_step; arm = arm_step; chain = chain_step; choice = choice_step; query = query_step C; signed = signed_step }

module _ (C : Catalogue) where
  -- the typing of a condition
  unfoldable pub says : Cond → Says
  says = cond_of typing (steps C)

  -- the typing of an expression
  unfoldable pub means : Expr → Means
  means = expr_of typing (steps C)

  -- the typing of an item
  unfoldable pub shows : Item → Shows
  shows = item_of typing (steps C)

  -- the typing of a join
  unfoldable pub joins : Join → Joins
  joins = join_of typing (steps C)

  -- the typing of WHEN condition THEN result
  unfoldable pub arms : Arm → Arms
  arms = arm_of typing (steps C)

  -- the typing of a chain
  unfoldable pub chains : Chain → Chains
  chains = chain_of typing (steps C)

  -- the typing of WHEN value THEN result
  unfoldable pub choices : Choice → Choices
  choices = choice_of typing (steps C)

  -- the typing of a query
  unfoldable pub answers : Query → Answers
  answers = query_of typing (steps C)

  -- the typing of a part of a sum
  unfoldable pub signs : Signed → Means
  signs = signed_of typing (steps C)
