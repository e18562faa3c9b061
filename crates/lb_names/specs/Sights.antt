-- What is in sight where a name stands: the FROM items of its query and of the queries round it.
use Rattle.std.specs.Prelude.{ℕ, suc, List, [], ◌∷◌, ◌++◌, map, Option, None, Some}
use Rattle.lb_tree.specs.declared.query.Tab.{Tab}
use Rattle.lb_names.specs.declared.place.Seen.{Seen}

-- a name's bytes
abbrev pub Name : Type 0
Name = List ℕ

-- the name that is given, or else the other one
abbrev pub or_name : Option Name → Name → Name
or_name (Some n) other = n
or_name None other = other

-- the name by which its query calls a FROM item: its correlation name, or else its table's name
abbrev pub correlation : Tab → Name
correlation tab = or_name tab.correlation tab.table

-- the names by which their query calls these items
abbrev pub calls_of : List Tab → List Name
calls_of tabs = map correlation tabs

-- an item of a query that so many queries enclose
abbrev pub at_level : ℕ → Tab → Seen
at_level n tab = record { level = n; tab = tab }

-- how many queries enclose a query that stands where these items are in sight, the innermost query's items first
abbrev pub level_in : List Seen → ℕ
level_in [] = 0
level_in (s ∷ seen) = suc s.level

-- the items of a query that stands where the first ones are in sight
abbrev pub items_in : List Seen → List Tab → List Seen
items_in outer tabs = map (at_level (level_in outer)) tabs

-- where a name stands
pub record Sight : Type 0 where
  -- the number of queries that enclose its query
  pub level : ℕ
  -- the FROM items of its query that it sees
  pub own : List Seen
  -- all items in sight, the innermost query's first
  pub seen : List Seen
  -- the correlation names of its query and of the queries round it, those that come later in the text too
  pub around : List Name

-- outside all queries nothing is in sight
abbrev pub nothing : Sight
nothing = record { level = 0; own = []; seen = []; around = [] }

-- inside a query with these FROM items
abbrev pub inside : Sight → List Tab → Sight
inside outer tabs = record { level = level_in outer.seen; own = items_in outer.seen tabs; seen = items_in outer.seen tabs ++ outer.seen; around = calls_of tabs ++ outer.around }

-- in an ON condition: only the tables of its chain up to its own one are seen, but all of the query's correlation names are taken
abbrev pub inside_on : Sight → List Name → List Tab → Sight
inside_on outer all tabs = record (inside outer tabs) { around = all ++ outer.around }
