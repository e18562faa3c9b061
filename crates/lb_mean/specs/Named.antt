-- What a part of a query names: columns, tables of FROM, and which of these a column belongs to.
use Rattle.std.specs.Prelude.{ℕ, not, Bool, false, List, [], ◌∷◌, ◌++◌, map, filter, Option, Some, None}
use Rattle.std.specs.List.{list_any, flat_map}
use Rattle.std.specs.Str.{bytes_eq}
use Rattle.lb_tree.specs.declared.query.Column.{Column}
use Rattle.lb_tree.specs.declared.query.Tab.{Tab}
use Rattle.lb_cat.specs.declared.catalog.ColumnRec.{ColumnRec}
use Rattle.lb_cat.specs.Catalog.{is_column}
use Rattle.lb_names.specs.Sights.{correlation}

-- a table of FROM, with the columns of its record
pub record FromItem : Type 0 where
  pub tab : Tab
  pub columns : List ColumnRec

-- a column as it is written, and whether it stands in an aggregate
pub record Named : Type 0 where
  pub column : Column
  pub aggregated : Bool

-- a table of FROM and the columns that are named through it, all of them where `*` is
pub record Use : Type 0 where
  pub item : FromItem
  pub columns : List (List ℕ)
  pub everything : Bool

-- What a part of a query names, in the order of the text: the columns that belong to none of the queries inside it, and the
-- tables of the queries inside it; and whether the part is a column and nothing else.
pub record Uses : Type 0 where
  pub columns : List Named
  pub tables : List Use
  pub bare : Bool

-- an item of a select list: what it names, whether it is a bare column or `*`, and the tables all of whose columns it shows
pub record ItemUses : Type 0 where
  pub within : Uses
  pub bare : Bool
  pub shows : FromItem → Bool

-- a join: its table, and what ON names
pub record JoinUses : Type 0 where
  pub item : FromItem
  pub on : Uses

-- a column that is named through the table of FROM with that correlation name
pub record Owned : Type 0 where
  pub correlation : List ℕ
  pub column : List ℕ

-- A table of FROM with its ON: the columns of ON that belong to the tables of its chain up to its own, those that belong to
-- none of them, and the tables of the queries inside ON.
pub record Joining : Type 0 where
  pub item : FromItem
  pub owned : List Owned
  pub outer : List Named
  pub tables : List Use

-- a query: what it names where ORDER BY names further columns, its tables, its items, and its grouping columns
pub record QueryUses : Type 0 where
  pub within : List Named → Uses
  pub from : List FromItem
  pub items : List ItemUses
  pub group : List Column

-- ---- parts together

-- a part that names nothing
abbrev pub no_uses : Uses
no_uses = record { columns = []; tables = []; bare = false }

-- one part and then another
abbrev pub and_then : Uses → Uses → Uses
and_then a b = record { columns = a.columns ++ b.columns; tables = a.tables ++ b.tables; bare = false }

-- parts in order
abbrev pub all_uses : List Uses → Uses
all_uses [] = no_uses
all_uses (x ∷ xs) = and_then x (all_uses xs)

-- a part that may be missing
abbrev pub if_used : Option Uses → Uses
if_used None = no_uses
if_used (Some x) = x

-- a column outside aggregates
abbrev pub plainly : Column → Named
plainly c = record { column = c; aggregated = false }

-- ---- tables of FROM

-- the name of a table in its query
abbrev pub name_of_item : FromItem → List ℕ
name_of_item item = correlation item.tab

-- a column belongs to the table: by the correlation name that is written before it, and a bare one by its name
abbrev pub belongs_by : Option (List ℕ) → List ℕ → FromItem → Bool
belongs_by (Some correlation) n item = bytes_eq (name_of_item item) correlation
belongs_by None n item = list_any (is_column n) item.columns

-- the same of a column as it is written
abbrev pub belongs : FromItem → Named → Bool
belongs item n = belongs_by n.column.correlation n.column.name item

-- it belongs to none of them
abbrev pub is_outer : List FromItem → Named → Bool
is_outer items n = not (list_any (λ item. belongs item n) items)

-- the columns among these that belong to the table, by their names
abbrev pub named_through : FromItem → List Named → List (List ℕ)
named_through item ns = map (λ n. n.column.name) (filter (belongs item) ns)

-- the columns of ON that belong to the tables that it sees, each with its table
abbrev pub owned_by : List FromItem → List Named → List Owned
owned_by items ns = flat_map (λ item. map (λ n. record { correlation = name_of_item item; column = n }) (named_through item ns)) items

-- a table of a chain, after these that stand before it in the chain; its ON sees them and its own
abbrev pub joining : List FromItem → JoinUses → Joining
joining before j = record {
  item = j.item;
  owned = owned_by (before ++ (j.item ∷ [])) j.on.columns;
  outer = filter (is_outer (before ++ (j.item ∷ []))) j.on.columns;
  tables = j.on.tables;
}

-- the tables of a chain after these
abbrev pub joinings : List FromItem → List JoinUses → List Joining
joinings before [] = []
joinings before (j ∷ js) = joining before j ∷ joinings (before ++ (j.item ∷ [])) js
