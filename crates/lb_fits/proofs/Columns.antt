-- Rows whose values are null or of their columns' kinds: what is written into them keeps that, and what fits a column is of its kind.
use Rattle.std.proofs.Common.{ℕ, zero, suc, List, [], ◌∷◌, map, slice_set, slice_get, Option, Some, None}
use Rattle.std.specs.List.{AllZip}
use Rattle.lb_base.specs.declared.key.Ty.{Ty}
use Rattle.lb_base.specs.declared.key.Ty.TheVariants as types
use Rattle.lb_base.specs.declared.value.Value.{Value}
use Rattle.lb_base.specs.declared.value.Value.TheVariants as values
use Rattle.lb_cat.specs.declared.catalog.ColumnRec.{ColumnRec}
use Rattle.lb_cat.specs.Catalog.{Cat, Table, policy_named}
use Rattle.lb_answer.specs.Checks.{written, with_label, begun, label_place}
use Rattle.lb_alter.specs.Fits.{HasType, FitsColumn}
use Rattle.lb_kinds.specs.HasKind.{HasKind}
use Rattle.lb_names.specs.Kinds.{kind_of}
use Rattle.lb_fits.specs.Given.{FitsKind, FitsKindIfThere, ArePlaced, OldFits}

module _ (C : Cat) where
  abbrev pub Loose : List ColumnRec → List Value → Type 0
  Loose columns row = AllZip (FitsKind C) columns row

  of_kind : (ty : Ty) (v : Value) → HasType C ty v → HasKind (policy_named C) (kind_of ty) v
  of_kind ty values.Null h = tt
  of_kind types.Int (values.Int n) h = tt
  of_kind (types.Text width) (values.Int n) h = absurd h
  of_kind types.Date (values.Int n) h = absurd h
  of_kind (types.Label p) (values.Int n) h = absurd h
  of_kind types.Int (values.Text x) h = absurd h
  of_kind (types.Text width) (values.Text x) h = tt
  of_kind types.Date (values.Text x) h = absurd h
  of_kind (types.Label p) (values.Text x) h = absurd h
  of_kind types.Int (values.Date x) h = absurd h
  of_kind (types.Text width) (values.Date x) h = absurd h
  of_kind types.Date (values.Date x) h = h
  of_kind (types.Label p) (values.Date x) h = absurd h
  of_kind types.Int (values.Label x) h = absurd h
  of_kind (types.Text width) (values.Label x) h = absurd h
  of_kind types.Date (values.Label x) h = absurd h
  of_kind (types.Label p) (values.Label x) h = h

  pub loosely : (cs : List ColumnRec) (row : List Value) → AllZip (FitsColumn C) cs row → Loose cs row
  loosely [] [] h = tt
  loosely [] (v ∷ row) h = absurd h
  loosely (c ∷ cs) [] h = absurd h
  loosely (c ∷ cs) (v ∷ row) h = (of_kind c.ty v h.0.0, loosely cs row h.1)

  nulls : (cs : List ColumnRec) → Loose cs (map (λ c. values.Null) cs)
  nulls [] = tt
  nulls (c ∷ cs) = (tt, nulls cs)

  set_fits : (cs : List ColumnRec) (row : List Value) (at : ℕ) (v : Value) → FitsKindIfThere C (slice_get cs at) v → Loose cs row → Loose cs (slice_set row at v)
  set_fits [] [] zero v g h = tt
  set_fits [] [] (suc at) v g h = tt
  set_fits [] (u ∷ row) at v g h = absurd h
  set_fits (c ∷ cs) [] at v g h = absurd h
  set_fits (c ∷ cs) (u ∷ row) zero v g h = (g, h.1)
  set_fits (c ∷ cs) (u ∷ row) (suc at) v g h = (h.0, set_fits cs row at v g h.1)

  null_there : (o : Option ColumnRec) → FitsKindIfThere C o values.Null
  null_there None = tt
  null_there (Some c) = tt

  module _ (t : Table) where
    unlabelled : (place : Option ℕ) (row : List Value) → Loose t.columns row → Loose t.columns (with_label place values.Null row)
    unlabelled None row h = h
    unlabelled (Some at) row h = set_fits t.columns row at values.Null (null_there (slice_get t.columns at)) h

    pub begun_fits : (old : Option (List Value)) → OldFits C t old → Loose t.columns (begun t old)
    begun_fits None h = nulls t.columns
    begun_fits (Some row) h = unlabelled (label_place t) row (loosely t.columns row h)

    pub written_fits : (places : List ℕ) (vs row : List Value) → ArePlaced C t places vs → Loose t.columns row → Loose t.columns (written places vs row)
    written_fits [] [] row g h = h
    written_fits [] (v ∷ vs) row g h = h
    written_fits (at ∷ places) [] row g h = h
    written_fits (at ∷ places) (v ∷ vs) row g h = written_fits places vs (slice_set row at v) g.1 (set_fits t.columns row at v g.0 h)
