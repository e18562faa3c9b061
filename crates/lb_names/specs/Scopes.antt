-- The catalogue as names and types see it, and what a column's name means among the FROM items in sight.
use Rattle.std.specs.Prelude.{ℕ, Bool, true, false, ◌&&◌, ◌==◌, if◌then◌else◌, List, [], ◌∷◌, find, Option, Some, None, Result, Ok, Err}
use Rattle.std.specs.List.{list_any}
use Rattle.std.specs.Str.{bytes_eq}
use Rattle.lb_tree.specs.declared.query.Column.{Column}
use Rattle.lb_tree.specs.declared.query.Tab.{Tab}
use Rattle.lb_names.specs.declared.place.Seen.{Seen}
use Rattle.lb_names.specs.declared.place.Spot.{Spot}
use Rattle.lb_names.specs.Sights.{Name, correlation}
use Rattle.lb_names.specs.Kinds.{Kind}

-- a column of a table
pub record Field : Type 0 where
  pub name : Name
  pub kind : Kind

-- what a check asks of the catalogue
pub record Catalogue : Type 0 where
  -- the columns of the table with that name, in order
  pub columns : Name → Option (List Field)
  -- there is a policy with that name
  pub has_policy : Name → Bool
  -- the policy has a label of that name
  pub has_label : Name → Name → Bool
  -- the byte at which the text stops being a label text of the policy
  pub label_fault : Name → Name → Option ℕ

-- it is there
abbrev pub is_some : {A : Type 0} → Option A → Bool
is_some None = false
is_some (Some x) = true

-- the list, empty where there is none
abbrev pub listed : {A : Type 0} → Option (List A) → List A
listed None = []
listed (Some xs) = xs

-- the columns of an item's table, none where there is no such table
abbrev pub columns_of : Catalogue → Tab → List Field
columns_of C tab = listed (C.columns tab.table)

-- the column of that name
abbrev pub field_named : Name → List Field → Option Field
field_named n fields = find (λ f. bytes_eq f.name n) fields

-- the item's table has a column of that name
abbrev pub has_column : Catalogue → Name → Seen → Bool
has_column C n s = list_any (λ f. bytes_eq f.name n) (columns_of C s.tab)

-- ---- columns

-- a column of a FROM item
pub record Found : Type 0 where
  pub item : Seen
  pub field : Field

-- what a column's name means, or else the name that is unknown
abbrev pub Resolved : Type 0
Resolved = Result Found Name

-- the column of the item, or the name that it lacks
abbrev pub found_in : Name → Seen → Option Field → Resolved
found_in n s None = Err n
found_in n s (Some f) = Ok (record { item = s; field = f })

-- the column of that name in the item's table
abbrev pub column_of : Catalogue → Name → Seen → Resolved
column_of C n s = found_in n s (field_named n (columns_of C s.tab))

-- `x.n` belongs to the innermost query whose FROM has the correlation name
abbrev pub qualified : Catalogue → Name → Name → List Seen → Resolved
qualified C x n [] = Err x
qualified C x n (s ∷ seen) = if bytes_eq (correlation s.tab) x then column_of C n s else qualified C x n seen

-- an item of the query of that level among these has the column
abbrev pub is_shared : Catalogue → Name → ℕ → List Seen → Bool
is_shared C n level seen = list_any (λ t. (t.level == level) && has_column C n t) seen

-- `n` belongs to the innermost query in which some FROM item has that column, where only one of its items has it
abbrev pub unqualified : Catalogue → Name → List Seen → Resolved
unqualified C n [] = Err n
unqualified C n (s ∷ seen) = if has_column C n s then (if is_shared C n s.level seen then Err n else column_of C n s) else unqualified C n seen

-- a name, with its correlation name where one is written
abbrev pub resolved_as : Catalogue → Option Name → Name → List Seen → Resolved
resolved_as C None n seen = unqualified C n seen
resolved_as C (Some x) n seen = qualified C x n seen

-- what a column means where these items are in sight
abbrev pub resolve : Catalogue → List Seen → Column → Resolved
resolve C seen c = resolved_as C c.correlation c.name seen

-- ---- the same column, however it is written

-- the column of that name of an item
abbrev pub spot_of : Seen → Name → Spot
spot_of s n = record { level = s.level; correlation = correlation s.tab; column = n }

-- the column that is found, none where its name is unknown
abbrev pub spots : Resolved → List Spot
spots (Ok x) = spot_of x.item x.field.name ∷ []
spots (Err n) = []

-- the same column of the same item
abbrev pub same_spot : Spot → Spot → Bool
same_spot s t = (s.level == t.level) && (bytes_eq s.correlation t.correlation && bytes_eq s.column t.column)

-- the first column of these is among the others
abbrev pub same_spots : List Spot → List Spot → Bool
same_spots [] ts = false
same_spots (s ∷ ss) ts = list_any (same_spot s) ts

-- both are the same column of the same FROM item
abbrev pub same_column : Catalogue → List Seen → Column → Column → Bool
same_column C seen c d = same_spots (spots (resolve C seen c)) (spots (resolve C seen d))
