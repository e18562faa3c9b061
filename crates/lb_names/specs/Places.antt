-- Where an expression stands in a query, and what the place asks of it.
use Rattle.std.specs.Prelude.{Bool, true, false, not, ◌||◌, ◌==◌, List, []}
use Rattle.std.specs.List.{list_any, list_all}
use Rattle.lb_tree.specs.declared.query.Tab.{Tab}
use Rattle.lb_names.specs.declared.place.Seen.{Seen}
use Rattle.lb_names.specs.declared.place.Spot.{Spot}
use Rattle.lb_names.specs.declared.place.Group.{Group}
use Rattle.lb_names.specs.Sights.{Name, Sight, nothing, inside, inside_on}
use Rattle.lb_names.specs.Scopes.{Catalogue, columns_of, spot_of, same_spot}

-- a place in a statement
pub record Place : Type 0 where
  -- what is in sight
  pub sight : Sight
  -- the queries round it in whose select list, HAVING or ORDER BY it stands, where they have groups
  pub groups : List Group
  -- it is not in a select list, ORDER BY, VALUES or SET
  pub subqueries : Bool
  -- it is in a select list, HAVING or ORDER BY, and not in an aggregate of that query
  pub aggregates : Bool
  -- it is in an aggregate of some query
  pub within : Bool
  -- it is in a permission or mask
  pub stored : Bool

-- outside all queries
abbrev pub outermost : Place
outermost = record { sight = nothing; groups = []; subqueries = true; aggregates = false; within = false; stored = false }

-- the argument of an aggregate that stands there
abbrev pub in_aggregate : Place → Place
in_aggregate P = record P { aggregates = false; within = true }

-- WHERE and GROUP BY of a query with these FROM items that stands there
abbrev pub filter_place : Place → List Tab → Place
filter_place P tabs = record P { sight = inside P.sight tabs; subqueries = true; aggregates = false }

-- an ON condition of a query with these correlation names; the chain's tables up to its own are these
abbrev pub on_place : Place → List Name → List Tab → Place
on_place P all tabs = record P { sight = inside_on P.sight all tabs; subqueries = true; aggregates = false }

-- HAVING of a query with these FROM items, under these groups
abbrev pub having_place : Place → List Tab → List Group → Place
having_place P tabs groups = record P { sight = inside P.sight tabs; groups = groups; subqueries = true; aggregates = true }

-- its select list and ORDER BY
abbrev pub shown_place : Place → List Tab → List Group → Place
shown_place P tabs groups = record P { sight = inside P.sight tabs; groups = groups; subqueries = false; aggregates = true }

-- ---- grouping columns

-- a column of the group's query is one of its grouping columns
abbrev pub is_in_group : Spot → Group → Bool
is_in_group s g = not (g.level == s.level) || list_any (same_spot s) g.columns

-- outside aggregates a column of a query with groups is one of its grouping columns
abbrev pub is_free : Place → Spot → Bool
is_free P s = P.within || list_all (is_in_group s) P.groups

-- all columns of the item may stand there
abbrev pub all_free_of : Place → Catalogue → Seen → Bool
all_free_of P C s = list_all (λ f. is_free P (spot_of s f.name)) (columns_of C s.tab)

-- all columns of these items may stand there
abbrev pub all_free : Place → Catalogue → List Seen → Bool
all_free P C items = list_all (all_free_of P C) items
