-- When an environment holds rows for what is in sight at a place.
use Rattle.std.specs.Prelude.{ℕ, ◌≡◌, ◌<◌, ◌⊎◌, ◌==◌, ◌&&◌, Bool, true, false, List, [], ◌∷◌, ◌++◌, Option, Some, None}
use Rattle.std.specs.List.{list_any, AllZip, AllByRecursion}
use Rattle.lb_tree.specs.declared.query.Tab.{Tab}
use Rattle.lb_names.specs.declared.place.Seen.{Seen}
use Rattle.lb_names.specs.declared.place.Group.{Group}
use Rattle.lb_names.specs.Sights.{Sight, correlation, items_in, level_in}
use Rattle.lb_names.specs.Marks.{Marks}
use Rattle.lb_names.specs.Scopes.{Catalogue, columns_of}
use Rattle.lb_names.specs.Passes.{all_own}
use Rattle.lb_names.specs.Places.{Place}
use Rattle.lb_mean.specs.Setting.{Setting, Piece, JoinedRow, Frame, Env}
use Rattle.lb_kinds.specs.Agreement.{CellsFit}

-- ---- what is in sight, query by query

-- the FROM items of the query in which a place stands, and of those round it, the innermost query first
abbrev pub Scopes : Type 0
Scopes = List (List Tab)

-- the items in sight, those of the innermost query first
abbrev pub seen_in : Scopes → List Seen
seen_in [] = []
seen_in (tabs ∷ scopes) = items_in (seen_in scopes) tabs ++ seen_in scopes

-- the items of the innermost query
abbrev pub own_in : Scopes → List Seen
own_in [] = []
own_in (tabs ∷ scopes) = items_in (seen_in scopes) tabs

-- how many queries enclose the innermost one
abbrev pub level_of : Scopes → ℕ
level_of [] = 0
level_of (tabs ∷ scopes) = level_in (seen_in scopes)

-- a place that has these items in sight
pub record IsSight (v : Sight) (scopes : Scopes) : Type 0 where
  pub seen : v.seen ≡ seen_in scopes
  pub own : v.own ≡ own_in scopes
  pub level : v.level ≡ level_of scopes

-- ---- columns that are not asked for

-- the list has nothing in it
abbrev pub is_empty : {A : Type 0} → List A → Bool
is_empty [] = true
is_empty (x ∷ xs) = false

-- the groups of a query of that level, which has no GROUP BY
abbrev pub is_bare : ℕ → Group → Bool
is_bare level g = (g.level == level) && is_empty g.columns

-- No column of the queries of that level is asked for: outside aggregates where such a query has groups and no GROUP BY, and in
-- an aggregate where its own query is of another level.
abbrev pub IsBarred : List Group → Option ℕ → ℕ → Type 0
IsBarred groups None level = list_any (is_bare level) groups ≡ true
IsBarred groups (Some home) level = (level == home) ≡ false

-- What stands at a place with these names in it: outside aggregates, or in an aggregate of a query of that level, which names
-- columns of that query alone.
abbrev pub StandsIn : Catalogue → Place → Option ℕ → Marks → Type 0
StandsIn C P None marks = P.within ≡ false
StandsIn C P (Some home) marks = all_own C home marks ≡ true

-- the queries inside those round the place are of other levels than the query of that aggregate, since its FROM has a table
abbrev pub IsBelow : Option ℕ → Sight → Type 0
IsBelow None v = Unit {0}
IsBelow (Some home) v = home < level_in v.seen

-- ---- rows

module _ (C : Catalogue) (S : Setting) where
  -- a row of a FROM item's table under its correlation name, whose cells fit the table's columns, as do those that outputs show
  pub record PieceFits (tab : Tab) (p : Piece) : Type 0 where
    pub correlation : p.correlation ≡ correlation tab
    pub columns : p.columns ≡ (S.sources tab.table).columns
    pub cells : CellsFit S.policies (columns_of C tab) p.cells
    pub shown : CellsFit S.policies (columns_of C tab) p.shown

  -- a joined row has a row of each FROM item, in order
  abbrev pub JoinedFits : List Tab → JoinedRow → Type 0
  JoinedFits tabs row = AllZip PieceFits tabs row

  -- the frame of a query with these FROM items: a joined row, or none where no column of it is asked for; and the joined rows of a group
  pub record FrameFits (tabs : List Tab) (barred : Type 0) (f : Frame) : Type 0 where
    pub row : JoinedFits tabs f.row ⊎ ((f.row ≡ []) × barred)
    pub group : AllByRecursion (JoinedFits tabs) f.group

  -- a frame for each of the queries
  abbrev pub FramesFit : (ℕ → Type 0) → Scopes → Env → Type 0
  FramesFit barred [] [] = Unit {0}
  FramesFit barred (tabs ∷ scopes) (f ∷ env) = FrameFits tabs (barred (level_in (seen_in scopes))) f × FramesFit barred scopes env
  FramesFit barred _ _ = ⊥

  -- the environment holds rows for what is in sight at a place, which is in an aggregate of a query of that level or in none
  pub record HoldsFor (P : Place) (home : Option ℕ) (env : Env) : Type 0 where
    pub scopes : Scopes
    pub sight : IsSight P.sight scopes
    pub frames : FramesFit (IsBarred P.groups home) scopes env
