-- The settings of statements and of stored conditions agree with the catalogue of names.
use Rattle.std.proofs.Common.{ℕ, suc, ◌+◌, ◌≡◌, refl, sym, subst, ap, ◌∙◌, Bool, true, false, ℤ, List, [], ◌∷◌, map, Option, Some, None, Ok, add-zero, slice_get, arith, bytes_eq, if◌then◌else◌}
use Rattle.std.specs.List.{AllZip, AllByRecursion}
use Rattle.lb_base.specs.declared.value.Value.{Value}
use Rattle.lb_base.specs.declared.key.Ty.{Ty}
use Rattle.lb_base.specs.declared.key.Ty.TheVariants as types
use Rattle.lb_base.specs.declared.fault.Fault.{Fault}
use Rattle.lb_base.specs.Days.{IsDay}
use Rattle.lb_base.specs.Evaluated.{Evaluated}
use Rattle.lb_cat.specs.declared.catalog.ColumnRec.{ColumnRec}
use Rattle.lb_cat.specs.declared.catalog.MaskRec.{MaskRec}
use Rattle.lb_cat.specs.declared.cred.Cred.{Cred}
use Rattle.lb_cat.specs.Catalog.{Cat, Table, table_named, policy_named}
use Rattle.lb_rows.specs.Tables.{Tables, rows_of}
use Rattle.lb_names.specs.Sights.{Name}
use Rattle.lb_names.specs.Kinds.{Kind, Common, null, integer, text, date, label, one, differ, both, is_one, kind_of}
use Rattle.lb_names.specs.Scopes.{Field, Catalogue, listed}
use Rattle.lb_names.specs.Statements.{stored_place}
use Rattle.lb_mean.specs.Setting.{Setting, given}
use Rattle.lb_mean.specs.Meaning.{value_of}
use Rattle.lb_mean.specs.Visible.{plain_column, whole_source, unguarded, mask_at, alone, seen_column, is_visible, shown_value, shown_from, visible_source}
use Rattle.lb_kinds.specs.HasKind.{Policies, HasKind, GivesKind}
use Rattle.lb_kinds.specs.Agreement.{SameName, RowFits, CellsFit, SourceFits}
use Rattle.lb_kinds.specs.Standing.{PieceFits}
use Rattle.lb_kinds.specs.Settings.{TakenValuesFit, columns_in, SameColumn, Knows, masked, MaskFits, MasksFit, UnguardedAgrees, GuardedAgrees}
use Rattle.lb_kinds.proofs.Results.{same_ok, no_false}
use Rattle.lb_kinds.proofs.Values.{Within, both_within, same_one, no_differ, gives_within}
use Rattle.lb_kinds.proofs.Expressions.{expressions_give}
use Rattle.lb_kinds.proofs.Begins.{target_holds}
use Rattle.lb_kinds.proofs.Rows.{GivesAll, passing_all}

-- ---- values that a column takes

taken_step : (policies : Policies) (w k : Kind) (c : Common) → both w k ≡ c → is_one c ≡ true → ((l : Kind) → both w k ≡ one l → l ≡ w) → Within policies k w
taken_step policies w k (one l) e o same v h = subst (λ j. HasKind policies j v) (same l e) ((both_within policies w k l e).1 v h)
taken_step policies w k differ e o same v h = absurd (no_false o)

label_stays : (b : Bool) (p : Name) (l : Kind) → (if b then one (label p) else differ) ≡ one l → l ≡ label p
label_stays true p l e = sym (same_one (label p) l e)
label_stays false p l e = absurd (no_differ l e)

-- what a column's kind has in common with another is the column's kind
stays : (ty : Ty) (k l : Kind) → both (kind_of ty) k ≡ one l → l ≡ kind_of ty
stays types.Int null l e = sym (same_one integer l e)
stays types.Int integer l e = sym (same_one integer l e)
stays types.Int text l e = absurd (no_differ l e)
stays types.Int date l e = absurd (no_differ l e)
stays types.Int (label q) l e = absurd (no_differ l e)
stays (types.Text width) null l e = sym (same_one text l e)
stays (types.Text width) integer l e = absurd (no_differ l e)
stays (types.Text width) text l e = sym (same_one text l e)
stays (types.Text width) date l e = absurd (no_differ l e)
stays (types.Text width) (label q) l e = absurd (no_differ l e)
stays types.Date null l e = sym (same_one date l e)
stays types.Date integer l e = absurd (no_differ l e)
stays types.Date text l e = absurd (no_differ l e)
stays types.Date date l e = sym (same_one date l e)
stays types.Date (label q) l e = absurd (no_differ l e)
stays (types.Label p) null l e = sym (same_one (label p) l e)
stays (types.Label p) integer l e = absurd (no_differ l e)
stays (types.Label p) text l e = absurd (no_differ l e)
stays (types.Label p) date l e = absurd (no_differ l e)
stays (types.Label p) (label q) l e = label_stays (bytes_eq p q) p l e

pub taken_fits : TakenValuesFit
taken_fits policies ty k v t h = taken_step policies (kind_of ty) k (both (kind_of ty) k) refl t (stays ty k) v h

-- ---- tables

plain_names : (fields : List Field) (columns : List ColumnRec) → AllZip SameColumn fields columns → AllZip SameName fields (map plain_column columns)
plain_names [] [] h = tt
plain_names [] (c ∷ columns) h = absurd h
plain_names (f ∷ fields) [] h = absurd h
plain_names (f ∷ fields) (c ∷ columns) h = (h.0.0, plain_names fields columns h.1)

seen_names : (W : Setting) (fields : List Field) (columns : List ColumnRec) → AllZip SameColumn fields columns → AllZip SameName fields (map (seen_column W) columns)
seen_names W [] [] h = tt
seen_names W [] (c ∷ columns) h = absurd h
seen_names W (f ∷ fields) [] h = absurd h
seen_names W (f ∷ fields) (c ∷ columns) h = (h.0.0, seen_names W fields columns h.1)

same_cells : (policies : Policies) (fields : List Field) (row : List Value) → RowFits policies fields row → CellsFit policies fields (given row)
same_cells policies [] [] h = tt
same_cells policies [] (v ∷ row) h = absurd h
same_cells policies (f ∷ fields) [] h = absurd h
same_cells policies (f ∷ fields) (v ∷ row) h = (h.0, same_cells policies fields row h.1)

no_fields : (policies : Policies) (fields : List Field) → AllZip SameColumn fields [] → AllZip SameName fields [] × AllByRecursion (RowFits policies fields) [] × ((row : List Value) → RowFits policies fields row → CellsFit policies fields (given row))
no_fields policies [] h = (tt, tt, same_cells policies [])
no_fields policies (f ∷ fields) h = absurd h

all_of_rows : (policies : Policies) (fields : List Field) (rows found : List (List Value)) → AllByRecursion (RowFits policies fields) rows → ◌≡◌ {A = Evaluated (List (List Value))} (Ok rows) (Ok found) → AllByRecursion (RowFits policies fields) found
all_of_rows policies fields rows found h e = subst (AllByRecursion (RowFits policies fields)) (same_ok {B = Fault} rows found e) h

whole_fits : (policies : Policies) (fields : List Field) (o : Option Table) (rows : List (List Value)) → AllZip SameColumn fields (columns_in o) → AllByRecursion (RowFits policies fields) rows → SourceFits policies fields (whole_source o rows)
whole_fits policies fields None rows h g =
    let n : AllZip SameName fields [] × AllByRecursion (RowFits policies fields) [] × ((row : List Value) → RowFits policies fields row → CellsFit policies fields (given row)) = no_fields policies fields h in
    record { columns = n.0; rows = λ found e. all_of_rows policies fields [] found n.1 e; shown = n.2 }
whole_fits policies fields (Some t) rows h g = record { columns = plain_names fields t.columns h; rows = λ found e. all_of_rows policies fields rows found g e; shown = same_cells policies fields }

pub unguarded_agrees : UnguardedAgrees
unguarded_agrees K C c T day k d = record {
  tables = λ n. whole_fits (policy_named C) (listed (K.columns n)) (table_named C n) (rows_of n T) (k.columns n) (k.rows n);
  labels = k.labels;
  day = d;
}

-- ---- what statements see

module _ (K : Catalogue) (C : Cat) (c : Cred) (T : Tables) (day : ℤ) (knows : Knows K C T) (is_day : IsDay day) where
  abbrev W : Setting
  W = unguarded C c T day

  abbrev fields : Name → List Field
  fields n = listed (K.columns n)

  -- a row of the table as a mask sees it
  alone_fits : (n : Name) (t : Table) (m : MaskRec) (row : List Value) → table_named C n ≡ Some t → RowFits (policy_named C) (fields n) row
      → PieceFits K W (masked n m) (record { correlation = m.correlation; columns = map plain_column t.columns; cells = given row; shown = given row })
  alone_fits n t m row e h = record {
    correlation = refl;
    columns = ap (λ o. (whole_source o (rows_of n T)).columns) (sym e);
    cells = same_cells (policy_named C) (fields n) row h;
    shown = same_cells (policy_named C) (fields n) row h;
  }

  mask_gives : (n : Name) (t : Table) (m : MaskRec) (ty : Ty) (row : List Value) → table_named C n ≡ Some t → RowFits (policy_named C) (fields n) row → MaskFits K n m ty
      → GivesKind (policy_named C) (kind_of ty) (value_of W m.value (alone m.correlation t row))
  mask_gives n t m ty row e h f =
      gives_within (policy_named C) f.kind (kind_of ty) (λ v. taken_fits (policy_named C) ty f.kind v f.takes) (value_of W m.value (alone m.correlation t row))
      (expressions_give K W (unguarded_agrees K C c T day knows is_day) (stored_place (masked n m)) None (alone m.correlation t row)
      (target_holds K W (stored_place (masked n m)) (masked n m) refl (record { correlation = m.correlation; columns = map plain_column t.columns; cells = given row; shown = given row }) (alone_fits n t m row e h))
      m.value refl f.days 0 f.after f.kind f.typed)

  shown_one : (n : Name) (t : Table) (row : List Value) (f : Field) (column : ColumnRec) (o : Option MaskRec) (v : Value) → table_named C n ≡ Some t → RowFits (policy_named C) (fields n) row → SameColumn f column
      → ((m : MaskRec) → o ≡ Some m → MaskFits K n m column.ty) → HasKind (policy_named C) f.kind v → GivesKind (policy_named C) f.kind (shown_value W t row o v)
  shown_one n t row f column None v e h s masks g = g
  shown_one n t row f column (Some m) v e h s masks g =
      subst (λ k. GivesKind (policy_named C) k (shown_value W t row (Some m) v)) (sym s.1) (mask_gives n t m column.ty row e h (masks m refl))

  abbrev MasksFrom : Name → Table → ℕ → List ColumnRec → Type 0
  MasksFrom n t at columns = (i : ℕ) (column : ColumnRec) (m : MaskRec) → slice_get columns i ≡ Some column → mask_at t (at + i) ≡ Some m → MaskFits K n m column.ty

  shown_all : (n : Name) (t : Table) (row : List Value) (at : ℕ) (fs : List Field) (columns : List ColumnRec) (vs : List Value) → table_named C n ≡ Some t → RowFits (policy_named C) (fields n) row → AllZip SameColumn fs columns
      → MasksFrom n t at columns → RowFits (policy_named C) fs vs → CellsFit (policy_named C) fs (shown_from W t row at vs)
  shown_all n t row at [] columns [] e h s masks g = tt
  shown_all n t row at [] columns (v ∷ vs) e h s masks g = absurd g
  shown_all n t row at (f ∷ fs) columns [] e h s masks g = absurd g
  shown_all n t row at (f ∷ fs) [] (v ∷ vs) e h s masks g = absurd s
  shown_all n t row at (f ∷ fs) (column ∷ columns) (v ∷ vs) e h s masks g = (
    shown_one n t row f column (mask_at t at) v e h s.0 (λ m p. masks 0 column m refl (ap (mask_at t) (add-zero at) ∙ p)) g.0,
    shown_all n t row (suc at) fs columns vs e h s.1 (λ i k m p q. masks (suc i) k m p (ap (mask_at t) (at-suc at i) ∙ q)) g.1,
  )
    where
      at-suc : (a i : ℕ) → a + suc i ≡ suc a + i
      at-suc a i = omega arith

  seen_fits : (n : Name) (o : Option Table) → table_named C n ≡ o → AllZip SameColumn (fields n) (columns_in o) → MasksFit K n o → SourceFits (policy_named C) (fields n) (visible_source W o (rows_of n T))
  seen_fits n None e h masks =
      let z : AllZip SameName (fields n) [] × AllByRecursion (RowFits (policy_named C) (fields n)) [] × ((row : List Value) → RowFits (policy_named C) (fields n) row → CellsFit (policy_named C) (fields n) (given row)) = no_fields (policy_named C) (fields n) h in
      record { columns = z.0; rows = λ found p. all_of_rows (policy_named C) (fields n) [] found z.1 p; shown = z.2 }
  seen_fits n (Some t) e h masks = record {
    columns = seen_names W (fields n) t.columns h;
    rows = λ found p. subst (GivesAll (RowFits (policy_named C) (fields n))) p (passing_all (RowFits (policy_named C) (fields n)) (is_visible W t) (rows_of n T) (knows.rows n));
    shown = λ row g. shown_all n t row 0 (fields n) t.columns row e g h (λ i k m p q. masks i k m p (ap (mask_at t) (sym (zero-left i)) ∙ q)) g;
  }
    where
      zero-left : (i : ℕ) → 0 + i ≡ i
      zero-left i = omega arith

pub guarded_agrees : GuardedAgrees
guarded_agrees K C c T day k d masks = record {
  tables = λ n. seen_fits K C c T day k d n (table_named C n) refl (k.columns n) (masks n);
  labels = k.labels;
  day = d;
}
