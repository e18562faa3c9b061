-- The masks of a sound catalogue fit their columns.
use Rattle.std.proofs.Common.{ℕ, zero, suc, ◌≡◌, refl, subst, ap, ◌∙◌, eqb-true, Bool, true, false, cond, not, ◌&&◌, ◌==◌, List, [], ◌∷◌, map, slice_get, Option, Some, None}
use Rattle.std.specs.Prelude.{find, if◌then◌else◌}
use Rattle.std.specs.List.{AllByRecursion, AllZip, list_any}
use Rattle.std.specs.Str.{bytes_eq}
use Rattle.lb_cat.specs.declared.catalog.ColumnRec.{ColumnRec}
use Rattle.lb_cat.specs.declared.catalog.MaskRec.{MaskRec}
use Rattle.lb_cat.specs.Catalog.{Cat, Table, table_named, is_table, is_among}
use Rattle.lb_names.specs.Scopes.{Field, Catalogue, listed, field_named}
use Rattle.lb_names.specs.Statements.{mask_types_refused}
use Rattle.lb_alter.specs.Columns.{HasItsColumns}
use Rattle.lb_alter.specs.Named.{are_different}
use Rattle.lb_alter.specs.Sound.{IsSound}
use Rattle.lb_alter.specs.Stored.{StoredRules}
use Rattle.lb_alter.specs.Valid.{TypesAt, IsValidMask, StoresValid, called}
use Rattle.lb_alter.proofs.SoundTables.{itself}
use Rattle.lb_alter.proofs.SoundUsers.{all_found}
use Rattle.lb_alter.proofs.Untouched.{turned, or_left, or_right, named_there}
use Rattle.lb_kinds.specs.Given.{CheckedMasksFit}
use Rattle.lb_kinds.specs.Settings.{SameColumn, MasksFit, columns_in}
use Rattle.lb_names.specs.Kinds.{kind_of}
use Rattle.lb_fits.specs.Dated.{MaskHasDays, StoresDays, CatalogStoresDays}
use Rattle.lb_fits.specs.Masks.{RefusesUntypedMasks, SoundMasksFit}
use Rattle.lb_fits.proofs.Steps.{left_true, right_true, not_false}

-- ---- a column's name means that column

record FieldOf (fields : List Field) (c : ColumnRec) : Type 0 where
  field : Field
  named : field_named c.name fields ≡ Some field
  kind : field.kind ≡ kind_of c.ty

same_some : (d c : ColumnRec) → Some d ≡ Some c → d ≡ c
same_some d c e = ap given e
  where
    given : Option ColumnRec → ColumnRec
    given None = d
    given (Some x) = x

none_at : (q : List ℕ → Bool) (cs : List ColumnRec) (at : ℕ) (c : ColumnRec) → list_any q (map (λ c. c.name) cs) ≡ false → slice_get cs at ≡ Some c → q c.name ≡ false
none_at q [] at c h e = absurd cc
none_at q (d ∷ cs) zero c h e = subst (λ (x : ColumnRec). q x.name ≡ false) (same_some d c e) (or_left (q d.name) (list_any q (map (λ c. c.name) cs)) h)
none_at q (d ∷ cs) (suc at) c h e = none_at q cs at c (or_right (q d.name) (list_any q (map (λ c. c.name) cs)) h) e

field_at : (fields : List Field) (cs : List ColumnRec) → AllZip SameColumn fields cs → are_different (map (λ c. c.name) cs) ≡ true → (at : ℕ) (c : ColumnRec) → slice_get cs at ≡ Some c → FieldOf fields c
field_at [] [] h d at c e = absurd cc
field_at [] (x ∷ cs) h d at c e = absurd h
field_at (f ∷ fields) [] h d at c e = absurd h
field_at (f ∷ fields) (x ∷ cs) h d zero c e =
    subst (FieldOf (f ∷ fields)) (same_some x c e)
    (record { field = f; named = ap (λ (b : Bool). cond b (Some f) (field_named x.name fields)) (subst (λ (n : List ℕ). bytes_eq n x.name ≡ true) h.0.0 (itself x.name)); kind = h.0.1 })
field_at (f ∷ fields) (x ∷ cs) h d (suc at) c e =
    let names : List (List ℕ) = map (λ c. c.name) cs in
    let other : is_among names x.name ≡ false = not_false (is_among names x.name) (left_true (not (is_among names x.name)) (are_different names) d) in
    let off : bytes_eq f.name c.name ≡ false = subst (λ (n : List ℕ). bytes_eq n c.name ≡ false) h.0.0 (turned c.name x.name (none_at (λ m. bytes_eq m x.name) cs at c other e)) in
    let r : FieldOf fields c = field_at fields cs h.1 (right_true (not (is_among names x.name)) (are_different names) d) at c e in
    record { field = r.field; named = ap (λ (b : Bool). cond b (Some f) (field_named c.name fields)) off ∙ r.named; kind = r.kind }

-- ---- the mask of a column

record Enabled (P : MaskRec → Type 0) (at : ℕ) (m : MaskRec) : Type 0 where
  its : P m
  place : m.column ≡ at

enabled_on : (P : MaskRec → Type 0) (at : ℕ) (b : Bool) (x : MaskRec) (ms : List MaskRec) (m : MaskRec) → (x.enabled && x.column == at) ≡ b → P x → (find (λ m. m.enabled && m.column == at) ms ≡ Some m → Enabled P at m)
    → cond b (Some x) (find (λ m. m.enabled && m.column == at) ms) ≡ Some m → Enabled P at m
enabled_on P at true x ms m t p go e =
    let same : x ≡ m = ap given e in
    subst (Enabled P at) same (record { its = p; place = eqb-true x.column at (right_true x.enabled (x.column == at) t) })
  where
    given : Option MaskRec → MaskRec
    given None = x
    given (Some y) = y
enabled_on P at false x ms m t p go e = go e

enabled : (P : MaskRec → Type 0) (at : ℕ) (ms : List MaskRec) (m : MaskRec) → AllByRecursion P ms → find (λ m. m.enabled && m.column == at) ms ≡ Some m → Enabled P at m
enabled P at [] m h e = absurd cc
enabled P at (x ∷ ms) m h e = enabled_on P at (x.enabled && x.column == at) x ms m refl h.0 (enabled P at ms m h.1) e

controlled : (b : Bool) (o : Option MaskRec) (m : MaskRec) → (if b then o else None) ≡ Some m → o ≡ Some m
controlled true o m e = e
controlled false o m e = absurd cc

-- ---- the masks of a table

module _ (checked : CheckedMasksFit) where
  table_masks : (rules : StoredRules) (N : Catalogue) (C : Cat) → IsSound rules C → RefusesUntypedMasks rules N C → CatalogStoresDays C → (n : List ℕ)
      → (o : Option Table) → table_named C n ≡ o → AllZip SameColumn (listed (N.columns n)) (columns_in o) → MasksFit N n o
  table_masks rules N C s typed days n None e same = tt
  table_masks rules N C s typed days n (Some t) e same = λ at c m there mask.
      let stored : StoresValid rules C t = all_found (StoresValid rules C) (is_table n) C.tables t s.stored e in
      let its : HasItsColumns t = all_found HasItsColumns (is_table n) C.tables t s.columns e in
      let dated : StoresDays t = all_found StoresDays (is_table n) C.tables t days e in
      let found : find (λ m. m.enabled && m.column == at) t.masks ≡ Some m = controlled t.column_control (find (λ m. m.enabled && m.column == at) t.masks) m mask in
      let valid : Enabled (IsValidMask rules C t) at m = enabled (IsValidMask rules C t) at t.masks m stored.masks found in
      let day : Enabled MaskHasDays at m = enabled MaskHasDays at t.masks m dated.1 found in
      let here : slice_get t.columns m.column ≡ Some c = ap (slice_get t.columns) valid.place ∙ there in
      let types : TypesAt rules C t m (Some c) = subst (TypesAt rules C t m) here valid.its.types in
      let name : t.name ≡ n = named_there (λ (x : Table). x.name) n C.tables t e in
      let f : FieldOf (listed (N.columns n)) c = field_at (listed (N.columns n)) t.columns same its.names at c there in
      checked N n m c.name c.ty f.field f.named f.kind day.its
      (subst (λ (k : List ℕ). mask_types_refused N (record { table = k; correlation = Some m.correlation }) c.name m.value ≡ None) name (typed (called t m.correlation) c.name m.value types.0))

  pub sound_masks_fit : SoundMasksFit
  sound_masks_fit rules N C s typed days columns n = table_masks rules N C s typed days n (table_named C n) refl (columns n)
