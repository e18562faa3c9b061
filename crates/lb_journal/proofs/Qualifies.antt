-- The qualified form of a condition keeps the rules that the condition keeps.
use Rattle.std.proofs.Common.{◌≡◌, refl, sym, ap, subst, ◌∙◌, ℕ, zero, suc, ◌<◌, Bool, true, false, cond, List, [], ◌∷◌, map, get_or, Option, Some, None, Ok, Err, arith}
use Rattle.std.specs.Prelude.{position, slice_get}
use Rattle.std.specs.Option.{option_map}
use Rattle.std.proofs.lemmas.List.Quantifiers.{position-Some}
use Rattle.std.proofs.lemmas.Option.{get_or_from_slice_get}
use Rattle.lb_base.specs.declared.key.Ty.{Ty}
use Rattle.lb_base.specs.declared.key.Ty.TheVariants as types
use Rattle.lb_tree.specs.declared.query.Tab.{Tab}
use Rattle.lb_cat.specs.declared.catalog.ColumnRec.{ColumnRec}
use Rattle.lb_cat.specs.Catalog.{Cat, Table, is_column, table_named}
use Rattle.lb_names.specs.Kinds.{Kind, kind_of}
use Rattle.lb_names.specs.Scopes.{Catalogue, listed, field_named}
use Rattle.lb_names.specs.Sights.{correlation, correlation}
use Rattle.lb_names.specs.Typed.{Typed, ◌>>=◌, only_if}
use Rattle.lb_names.specs.Typing.{means}
use Rattle.lb_names.specs.Statements.{broken, stored_place, kind_in, mask_takes, permission_names_refused, mask_names_refused, mask_types_refused}
use Rattle.lb_names.proofs.FormNames.{permission_form_stays, mask_form_stays}
use Rattle.lb_names.proofs.FormRules.{permission_types_kept, mask_types_kept}
use Rattle.lb_names.proofs.QualifiedForms.{permission_is_qualified, mask_is_qualified}
use Rattle.lb_alter.specs.ChangeTable.{is_label_type}
use Rattle.lb_alter.specs.Valid.{called, TypesAt}
use Rattle.lb_alter.proofs.Untouched.{named_there}
use Rattle.lb_alter.specs.Naming.{field_of, fields_of, named_in, refusal_for, stored_rules}
use Rattle.lb_journal.proofs.Facts.{QualifiedKeeps, QualifiedMaskKeeps}
use Rattle.lb_journal.proofs.Steady.{none_told}

-- ---- the table by the name that the condition calls it by

called_same : (on : Tab) → correlation on ≡ correlation on
called_same on = go on.correlation
  where
    go : (o : Option (List ℕ)) → correlation (record on { correlation = o }) ≡ correlation (record on { correlation = o })
    go None = refl
    go (Some n) = refl

table_same : (C : Cat) (t : Table) (on : Tab) → table_named C on.table ≡ Some t → on.table ≡ t.name
table_same C t on found = sym (named_there (λ (x : Table). x.name) on.table C.tables t found)

-- ---- the masked column

abbrev column_or : ColumnRec → Option ColumnRec → ColumnRec
column_or c None = c
column_or c (Some d) = d

field_at : (n : List ℕ) (cs : List ColumnRec) (at : ℕ) (c : ColumnRec) → slice_get cs at ≡ Some c → is_column n c ≡ true → ((k : ℕ) → k < at → is_column n (get_or cs k c) ≡ false) → field_named n (map field_of cs) ≡ Some (field_of c)
field_at n [] at c e p before = absurd cc
field_at n (d ∷ cs) zero c e p before =
    let same : d ≡ c = ap (column_or c) e in
    (λ i. cond (is_column n (same i)) (Some (field_of (same i))) (field_named n (map field_of cs))) ∙ (λ i. cond (p i) (Some (field_of c)) (field_named n (map field_of cs)))
field_at n (d ∷ cs) (suc at) c e p before =
    (λ i. cond (before 0 (omega arith) i) (Some (field_of d)) (field_named n (map field_of cs)))
    ∙ field_at n cs at c e p (λ k l. before (suc k) (omega arith))

field_found : (t : Table) (at : ℕ) (c : ColumnRec) → position (is_column c.name) t.columns ≡ Some at → slice_get t.columns at ≡ Some c → field_named c.name (fields_of t) ≡ Some (field_of c)
field_found t at c place there =
    let h : _ = position-Some (is_column c.name) t.columns at c place in
    field_at c.name t.columns at c there (ap (is_column c.name) (sym (get_or_from_slice_get t.columns at c c there)) ∙ h.1) h.2

no_label_taken : (E : Catalogue) (ty : Ty) (k : Kind) → mask_takes E (kind_of ty ∷ []) k ≡ true → is_label_type ty ≡ false
no_label_taken E types.Int k h = refl
no_label_taken E (types.Text w) k h = refl
no_label_taken E types.Date k h = refl
no_label_taken E (types.Label p) k h = absurd cc

if_unbroken : {A : Type 0} (b : Bool) (x : A × ℕ) → broken (only_if b 0 x) ≡ None → b ≡ true
if_unbroken true x h = refl
if_unbroken false x h = absurd cc

no_label_unbroken : (E : Catalogue) (ty : Ty) (ks : List Kind) → ks ≡ kind_of ty ∷ [] → (r : Typed Kind) → broken (r >>= λ x. only_if (mask_takes E ks x.0) 0 x) ≡ None → is_label_type ty ≡ false
no_label_unbroken E ty ks e (Ok x) h = no_label_taken E ty x.0 (sym (ap (λ z. mask_takes E z x.0) e) ∙ if_unbroken (mask_takes E ks x.0) x h)
no_label_unbroken E ty ks e (Err at) h = absurd cc

-- ---- conditions and masks

pub qualifies : QualifiedKeeps stored_rules
qualifies C t on c found h =
    let on_table : on.table ≡ t.name = table_same C t on found in
    let names : permission_names_refused (named_in C) on c ≡ None = none_told (permission_names_refused (named_in C) on c) h.names in
    record {
      names = ap (option_map refusal_for) (permission_form_stays (named_in C) on (called t (correlation on)) on_table (called_same on) c names);
      types = ap (option_map refusal_for) (permission_types_kept (named_in C) on (called t (correlation on)) on_table (called_same on) c names) ∙ h.types;
      qualified = permission_is_qualified (named_in C) on c names;
    }

pub qualifies_mask : QualifiedMaskKeeps stored_rules
qualifies_mask C t on at c e found place there h =
    let on_table : on.table ≡ t.name = table_same C t on found in
    let names : mask_names_refused (named_in C) on e ≡ None = none_told (mask_names_refused (named_in C) on e) h.names in
    let kinds : _ = (λ i. kind_in (field_named c.name (listed (option_map fields_of (found i))))) ∙ ap kind_in (field_found t at c place there) in
    record {
      names = ap (option_map refusal_for) (mask_form_stays (named_in C) on (called t (correlation on)) on_table (called_same on) e names);
      types =
          subst (TypesAt stored_rules C t (record { name = []; column = at; correlation = correlation on; value = stored_rules.qualified_mask C on e; enabled = true })) (sym there)
          (ap (option_map refusal_for) (mask_types_kept (named_in C) on (called t (correlation on)) on_table (called_same on) c.name e names) ∙ h.types, no_label_unbroken (named_in C) c.ty _ kinds ((means (named_in C) e).kind (stored_place on) 0) (none_told (mask_types_refused (named_in C) on c.name e) h.types));
      qualified = mask_is_qualified (named_in C) on e names;
    }
