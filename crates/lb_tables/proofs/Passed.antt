-- Columns that have passed the tests of CREATE TABLE may be made; and what other tests say once they have passed.
use Rattle.std.proofs.Common.{ℕ, ◌≡◌, refl, ap, ◌∙◌, Bool, true, false, not, ◌&&◌, ◌||◌, List, [], ◌∷◌, Option, None, Some}
use Rattle.std.specs.Prelude.{is_some}
use Rattle.std.specs.List.{list_all}
use Rattle.lb_stmt.specs.declared.change.ColumnDef.{ColumnDef}
use Rattle.lb_stmt.specs.declared.change.ColumnType.{ColumnType}
use Rattle.lb_stmt.specs.declared.change.ColumnType.TheVariants as column_types
use Rattle.lb_stmt.specs.declared.change.Element.{Element}
use Rattle.lb_stmt.specs.declared.change.PlainType.{PlainType}
use Rattle.lb_cat.specs.Catalog.{is_among}
use Rattle.lb_cat.specs.declared.refusal.Flaw.TheVariants as kinds
use Rattle.lb_cat.specs.declared.refusal.LimitOf.TheVariants as limits
use Rattle.lb_cat.specs.declared.refusal.Refusal.{Refusal}
use Rattle.lb_cat.specs.declared.refusal.Refusal.TheVariants as refusals
use Rattle.lb_alter.specs.ChangeTable.{columns_in, columns_refusal, column_width_refusal, flaw_refusal, flaws_refusal, has_width, is_key, is_label_kind, width_refusal}
use Rattle.lb_alter.specs.Refusing.{earliest, when}
use Rattle.lb_tables.specs.Makeable.{are_makeable, has_column_width, is_makeable}

-- the tests before and after have passed
first_passes : (x : Option Refusal) (ts : List (Option Refusal)) → earliest (x ∷ ts) ≡ None → x ≡ None
first_passes None ts h = refl
first_passes (Some r) ts h = absurd cc

rest_passes : (x : Option Refusal) (ts : List (Option Refusal)) → earliest (x ∷ ts) ≡ None → earliest ts ≡ None
rest_passes None ts h = h
rest_passes (Some r) ts h = absurd cc

-- the condition of a test that has passed doesn't hold
isnt : (b : Bool) (r : Refusal) → when b r ≡ None → b ≡ false
isnt true r h = absurd cc
isnt false r h = refl

is_then : (b : Bool) → not b ≡ false → b ≡ true
is_then true h = refl
is_then false h = absurd cc

wide : (ty : PlainType) → width_refusal ty ≡ None → has_width ty ≡ true
wide ty h = is_then (has_width ty) (isnt (not (has_width ty)) (refusals.Limit limits.Width 254) h)

column_wide : (ty : ColumnType) → column_width_refusal ty ≡ None → has_column_width ty ≡ true
column_wide (column_types.Plain ty) h = wide ty h
column_wide column_types.Label h = refl

protected_then : (label secured protected : Bool) → ((label || secured) && not protected) ≡ false → (not label || protected) ≡ true
protected_then true secured true h = refl
protected_then true secured false h = absurd cc
protected_then false secured protected h = refl

both : (a b : Bool) → a ≡ true → b ≡ true → (a && b) ≡ true
both a b h g = ap (λ x. x && b) h ∙ g

flawless : (policy : Option (List ℕ)) (label_before key_before key : Bool) (d : ColumnDef) → flaw_refusal (is_some policy) label_before key_before key d ≡ None → (not (is_label_kind d.ty) || is_some policy) ≡ true
flawless policy label_before key_before key d h =
    let lacks : Bool = (is_label_kind d.ty || is_some d.secured) && not (is_some policy) in
    let others : List (Option Refusal) =
    when (is_label_kind d.ty && label_before) (refusals.BadTable d.name kinds.TwoLabels)
    ∷ when (key && key_before) (refusals.BadTable d.name kinds.TwoKeys)
    ∷ when (is_label_kind d.ty && (key || is_some d.secured)) (refusals.BadTable d.name kinds.LabelKey)
    ∷ [] in
    protected_then (is_label_kind d.ty) (is_some d.secured) (is_some policy) (isnt lacks (refusals.BadTable d.name kinds.NoPolicy) (first_passes (when lacks (refusals.BadTable d.name kinds.NoPolicy)) others h))

columns_pass : (policy : Option (List ℕ)) (es : List Element) (names : List (List ℕ)) (label_before key_before : Bool) (ds : List ColumnDef)
    → columns_refusal names ds ≡ None → flaws_refusal (is_some policy) label_before key_before es ds ≡ None → list_all (is_makeable policy) ds ≡ true
columns_pass policy es names label_before key_before [] h g = refl
columns_pass policy es names label_before key_before (d ∷ ds) h g =
    let taken : Option Refusal = when (is_among names d.name) (refusals.Exists d.name) in
    let width : Option Refusal = column_width_refusal d.ty in
    let names_left : Option Refusal = columns_refusal (d.name ∷ names) ds in
    let flaw : Option Refusal = flaw_refusal (is_some policy) label_before key_before (is_key es d) d in
    let flaws_left : Option Refusal = flaws_refusal (is_some policy) (label_before || is_label_kind d.ty) (key_before || is_key es d) es ds in
    let later : earliest (width ∷ names_left ∷ []) ≡ None = rest_passes taken (width ∷ names_left ∷ []) h in
    both (is_makeable policy d) (list_all (is_makeable policy) ds)
    (both (has_column_width d.ty) (not (is_label_kind d.ty) || is_some policy)
    (column_wide d.ty (first_passes width (names_left ∷ []) later))
    (flawless policy label_before key_before (is_key es d) d (first_passes flaw (flaws_left ∷ []) g)))
    (columns_pass policy es (d.name ∷ names) (label_before || is_label_kind d.ty) (key_before || is_key es d) ds (first_passes names_left [] (rest_passes width (names_left ∷ []) later))
    (first_passes flaws_left [] (rest_passes flaw (flaws_left ∷ []) g)))

pub all_makeable : (policy : Option (List ℕ)) (es : List Element)
    → columns_refusal [] (columns_in es) ≡ None → flaws_refusal (is_some policy) false false es (columns_in es) ≡ None → are_makeable policy es ≡ true
all_makeable policy es h g = columns_pass policy es [] false false (columns_in es) h g
