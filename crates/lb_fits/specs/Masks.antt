-- What is said of the masks of a sound catalogue: they fit their columns.
use Rattle.std.specs.Prelude.{ℕ, ◌≡◌, List, None}
use Rattle.std.specs.List.{AllZip}
use Rattle.lb_tree.specs.declared.query.Expr.{Expr}
use Rattle.lb_tree.specs.declared.query.Tab.{Tab}
use Rattle.lb_cat.specs.Catalog.{Cat, table_named}
use Rattle.lb_names.specs.Scopes.{Catalogue, listed}
use Rattle.lb_names.specs.Statements.{mask_types_refused}
use Rattle.lb_alter.specs.Sound.{IsSound}
use Rattle.lb_alter.specs.Stored.{StoredRules}
use Rattle.lb_fits.specs.Dated.{CatalogStoresDays}
use Rattle.lb_kinds.specs.Settings.{SameColumn, MasksFit, columns_in}

-- a mask whose types the rules of the catalogue's changes let pass is not refused by the rules of types
abbrev pub RefusesUntypedMasks : StoredRules → Catalogue → Cat → Type 0
RefusesUntypedMasks rules N C = (on : Tab) (column : List ℕ) (e : Expr) → rules.mask_types C on column e ≡ None → mask_types_refused N on column e ≡ None

-- the masks of a sound catalogue fit their columns, where names know these, and the rules of its changes are those of types
abbrev pub SoundMasksFit : Type 0
SoundMasksFit = (rules : StoredRules) (N : Catalogue) (C : Cat) → IsSound rules C → RefusesUntypedMasks rules N C → CatalogStoresDays C
    → ((n : List ℕ) → AllZip SameColumn (listed (N.columns n)) (columns_in (table_named C n))) → (n : List ℕ) → MasksFit N n (table_named C n)
