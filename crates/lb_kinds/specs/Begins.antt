-- The environments in which statements, stored conditions, WHERE and ON are evaluated hold rows for what is in sight there.
use Rattle.std.specs.Prelude.{ℕ, ◌≡◌, List, [], ◌∷◌, map, Option, None}
use Rattle.std.specs.List.{AllByRecursion}
use Rattle.lb_tree.specs.declared.query.Tab.{Tab}
use Rattle.lb_tree.specs.declared.query.Query.{Query}
use Rattle.lb_tree.specs.declared.query.Cond.TheViews.{out-Query}
use Rattle.lb_names.specs.Sights.{Name, nothing}
use Rattle.lb_names.specs.StatementMarks.{over}
use Rattle.lb_names.specs.Marks.{tables_of}
use Rattle.lb_names.specs.Scopes.{Catalogue}
use Rattle.lb_names.specs.Places.{Place, filter_place, on_place}
use Rattle.lb_names.specs.Carriers.{chain_marked}
use Rattle.lb_names.specs.Typing.{chains as typed_chains}
use Rattle.lb_mean.specs.Setting.{Setting, Piece, JoinedRow, Env, row_frame}
use Rattle.lb_mean.specs.Joined.{joined}
use Rattle.lb_mean.specs.Meaning.{chains}
use Rattle.lb_kinds.specs.HasKind.{IfResult}
use Rattle.lb_kinds.specs.Agreement.{AgreesOn}
use Rattle.lb_kinds.specs.Standing.{PieceFits, JoinedFits, HoldsFor}

-- outside all queries, as in VALUES, nothing is in sight
abbrev pub NothingHolds : Type 0
NothingHolds = (C : Catalogue) (S : Setting) (P : Place) → P.sight ≡ nothing → HoldsFor C S P None []

-- a row of its target holds for the WHERE and SET of a write, and one of its table for a permission or mask
abbrev pub TargetHolds : Type 0
TargetHolds = (C : Catalogue) (S : Setting) (P : Place) (tab : Tab) → P.sight ≡ over tab
    → (p : Piece) → PieceFits C S tab p → HoldsFor C S P None (row_frame (p ∷ []) ∷ [])

-- a joined row of some tables holds for a WHERE over them, and for an ON after them
abbrev pub RowsHold : Type 0
RowsHold = (C : Catalogue) (S : Setting) (P : Place) (home : Option ℕ) (env : Env) → HoldsFor C S P home env
    → (tabs : List Tab) (row : JoinedRow) → JoinedFits C S tabs row
    → HoldsFor C S (filter_place P tabs) home (row_frame row ∷ env) × ((all : List Name) → HoldsFor C S (on_place P all tabs) home (row_frame row ∷ env))

-- the FROM items of a query
abbrev pub tables_from : Catalogue → Query → List Tab
tables_from C q = tables_of (map chain_marked (map (typed_chains C) (out-Query q).from))

-- each joined row of a query has a row of each of its tables, in order
abbrev pub JoinedRowsFit : Type 0
JoinedRowsFit = (C : Catalogue) (S : Setting) → AgreesOn C S → (env : Env) (q : Query)
    → AllByRecursion (IfResult (JoinedFits C S (tables_from C q))) (joined (map (chains S) (out-Query q).from) env)
