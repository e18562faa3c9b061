-- When what names and types know of the tables and policies, and what evaluation sees of them, agree.
use Rattle.std.specs.Prelude.{ℕ, ◌≡◌, List, Option, Some, None, Ok}
use Rattle.std.specs.List.{AllZip, AllByRecursion}
use Rattle.lb_base.specs.declared.value.Value.{Value}
use Rattle.lb_base.specs.Days.{IsDay}
use Rattle.lb_base.specs.Evaluated.{Evaluated}
use Rattle.lb_label.specs.Label.{IsLabel}
use Rattle.lb_cat.specs.Catalog.{Policy}
use Rattle.lb_names.specs.Scopes.{Field, Catalogue, listed}
use Rattle.lb_mean.specs.Setting.{Setting, Source, SeenColumn}
use Rattle.lb_kinds.specs.HasKind.{Policies, HasKind, GivesKind}

-- both are the column of that name
abbrev pub SameName : Field → SeenColumn → Type 0
SameName f c = c.name ≡ f.name

-- each value of a row is null or of its column's kind
abbrev pub RowFits : Policies → List Field → List Value → Type 0
RowFits policies fields row = AllZip (λ f v. HasKind policies f.kind v) fields row

-- the same of the cells of a row, each of which may be a fault
abbrev pub CellsFit : Policies → List Field → List (Evaluated Value) → Type 0
CellsFit policies fields cells = AllZip (λ f x. GivesKind policies f.kind x) fields cells

-- what is seen of a table with these columns: the columns in order, rows that fit them, and outputs that show cells that fit them
pub record SourceFits (policies : Policies) (fields : List Field) (source : Source) : Type 0 where
  pub columns : AllZip SameName fields source.columns
  pub rows : (rows : List (List Value)) → source.rows ≡ Ok rows → AllByRecursion (RowFits policies fields) rows
  pub shown : (row : List Value) → RowFits policies fields row → CellsFit policies fields (source.shown row)

-- each label of a policy is one of its shape
abbrev pub LabelsFit : Option Policy → Type 0
LabelsFit None = Unit {0}
LabelsFit (Some p) = AllByRecursion (λ l. IsLabel p.shape l.parts.items) p.labels

-- of every name the catalogue knows the table that the setting sees, with no columns where there is none
pub record AgreesOn (C : Catalogue) (S : Setting) : Type 0 where
  pub tables : (n : List ℕ) → SourceFits S.policies (listed (C.columns n)) (S.sources n)
  pub labels : (p : List ℕ) → LabelsFit (S.policies p)
  pub day : IsDay S.day
