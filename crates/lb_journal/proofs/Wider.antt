-- A table that gets wider breaks no qualified condition.
use Rattle.std.proofs.Common.{◌≡◌, refl, sym, ap, subst, ◌∙◌, ℕ, ◌≤◌, true, ◌||◌, List, [], ◌∷◌, ◌++◌, map, length, Option, Some, None, arith}
use Rattle.std.specs.Prelude.{take, drop}
use Rattle.std.specs.Option.{option_map}
use Rattle.std.specs.List.{AllZip, list_any}
use Rattle.lb_base.specs.declared.key.Ty.{Ty}
use Rattle.lb_base.specs.declared.key.Ty.TheVariants as types
use Rattle.lb_cat.specs.declared.catalog.ColumnRec.{ColumnRec}
use Rattle.lb_cat.specs.Catalog.{Cat, Table, table_named, put_table}
use Rattle.lb_names.specs.Kinds.{is_label, kind_of}
use Rattle.lb_names.specs.Scopes.{Field}
use Rattle.lb_names.specs.Typing.{is_listed}
use Rattle.lb_names.specs.Growing.{is_label_field, IsLonger, IsLongerIfThere, IsGrown}
use Rattle.lb_names.specs.Statements.{permission_names_refused, permission_types_refused, mask_names_refused, mask_types_refused}
use Rattle.lb_names.proofs.GrownNames.{permission_names_stay, mask_names_stay}
use Rattle.lb_names.proofs.GrownRules.{permission_types_stay, mask_types_stay}
use Rattle.lb_alter.specs.ChangeTable.{is_label_type, is_label_column}
use Rattle.lb_alter.specs.Steady.{IsSameColumn, IsWider}
use Rattle.lb_alter.proofs.SoundTables.{put_case}
use Rattle.lb_alter.specs.Naming.{field_of, fields_of, named_in, refusal_for, stored_rules}
use Rattle.lb_journal.proofs.Facts.{OutlastsColumns, OutlastsColumnsInMask}
use Rattle.lb_journal.proofs.Steady.{none_told}

-- ---- columns

same_fields : (cs ds : List ColumnRec) → AllZip IsSameColumn cs (take (length cs) ds) → map field_of ds ≡ map field_of cs ++ map field_of (drop (length cs) ds)
same_fields [] ds h = refl
same_fields (c ∷ cs) [] h = absurd h
same_fields (c ∷ cs) (d ∷ ds) h = λ i. record { name = h.0.0 i; kind = kind_of (h.0.1 i) } ∷ same_fields cs ds h.1 i

label_kind : (ty : Ty) → is_label (kind_of ty) ≡ is_label_type ty
label_kind types.Int = refl
label_kind (types.Text w) = refl
label_kind types.Date = refl
label_kind (types.Label p) = refl

labels_same : (cs : List ColumnRec) → list_any is_label_field (map field_of cs) ≡ list_any is_label_column cs
labels_same [] = refl
labels_same (c ∷ cs) = λ i. label_kind c.ty i || labels_same cs i

is_some_column : (cs : List ColumnRec) → 1 ≤ length cs → is_listed (map field_of cs) ≡ true
is_some_column [] h = absurd (omega arith)
is_some_column (c ∷ cs) h = refl

itself_longer : (o : Option (List Field)) → IsLongerIfThere o o
itself_longer None = tt
itself_longer (Some fields) = record { more = []; same = sym (no_more fields); plain = refl; some = λ e. absurd cc }
  where
    no_more : (fields : List Field) → fields ++ [] ≡ fields
    no_more [] = refl
    no_more (f ∷ fields) = λ i. f ∷ no_more fields i

module _ (C : Cat) (t u : Table) (found : table_named C t.name ≡ Some t) (w : IsWider t u) where
  longer : IsLonger (fields_of t) (fields_of u)
  longer = record {
    more = map field_of (drop (length t.columns) u.columns);
    same = same_fields t.columns u.columns w.same;
    plain = labels_same (drop (length t.columns) u.columns) ∙ ap (list_any is_label_column) w.rest ∙ w.plain;
    some = λ _. is_some_column t.columns w.some;
  }

  columns : (n : List ℕ) → IsLongerIfThere (option_map fields_of (table_named C n)) (option_map fields_of (table_named (put_table u C) n))
  columns n =
      put_case (λ (x : Table). x.name) (λ o. IsLongerIfThere (option_map fields_of (table_named C n)) (option_map fields_of o)) u C.tables n
      (λ e. subst (λ o. IsLongerIfThere (option_map fields_of o) (Some (fields_of u))) (sym (subst (λ (m : List ℕ). table_named C m ≡ Some t) (sym w.name ∙ e) found)) longer)
      (itself_longer (option_map fields_of (table_named C n)))

  pub grown : IsGrown (named_in C) (named_in (put_table u C))
  grown = record { columns = columns; policies = λ p. refl; labels = λ p l. refl; faults = λ p text. refl }

pub widens : OutlastsColumns stored_rules
widens C t u on c found w q h =
    let g : IsGrown (named_in C) (named_in (put_table u C)) = grown C t u found w in
    record {
      names = ap (option_map refusal_for) (permission_names_stay (named_in C) (named_in (put_table u C)) g on c q (none_told (permission_names_refused (named_in C) on c) h.names));
      types = ap (option_map refusal_for) (permission_types_stay (named_in C) (named_in (put_table u C)) g on c q (none_told (permission_types_refused (named_in C) on c) h.types));
    }

pub widens_mask : OutlastsColumnsInMask stored_rules
widens_mask C t u on column e found w q h =
    let g : IsGrown (named_in C) (named_in (put_table u C)) = grown C t u found w in
    record {
      names = ap (option_map refusal_for) (mask_names_stay (named_in C) (named_in (put_table u C)) g on e q (none_told (mask_names_refused (named_in C) on e) h.names));
      types = ap (option_map refusal_for) (mask_types_stay (named_in C) (named_in (put_table u C)) g on column e q (none_told (mask_types_refused (named_in C) on column e) h.types));
    }
