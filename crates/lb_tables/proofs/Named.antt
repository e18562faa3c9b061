-- The first refusal of a column for its name or its width, where the elements before it stand beside those that are left.
use Rattle.std.proofs.Common.{ℕ, ◌≡◌, refl, ap, sym, ◌∙◌, Bool, true, false, ◌||◌, List, [], ◌∷◌, ◌++◌, Option, None, Some}
use Rattle.std.specs.List.{list_any}
use Rattle.std.specs.Str.{bytes_eq}
use Rattle.std.proofs.lemmas.List.Elements.{filter_map-append}
use Rattle.lb_stmt.specs.declared.change.ColumnDef.{ColumnDef}
use Rattle.lb_stmt.specs.declared.change.Element.{Element}
use Rattle.lb_stmt.specs.declared.change.Element.TheVariants as elements
use Rattle.lb_cat.specs.Catalog.{is_among}
use Rattle.lb_cat.specs.declared.refusal.Refusal.{Refusal}
use Rattle.lb_cat.specs.declared.refusal.Refusal.TheVariants as refusals
use Rattle.lb_alter.specs.ChangeTable.{column_in, columns_in, columns_refusal, column_width_refusal, has_column_named}
use Rattle.lb_alter.specs.Refusing.{earliest, when}

-- a column's own refusal: no column before it has its name, and its width is within the limit
abbrev pub refusal_at : List Element → ColumnDef → Option Refusal
refusal_at before d = earliest (when (has_column_named (columns_in before) d.name) (refusals.Exists d.name) ∷ column_width_refusal d.ty ∷ [])

-- that of the first column that is left and has one
abbrev pub refusal_after : List Element → List Element → Option Refusal
refusal_after before [] = None
refusal_after before (elements.Column d ∷ es) = earliest (refusal_at before d ∷ refusal_after (before ++ elements.Column d ∷ []) es ∷ [])
refusal_after before (elements.Key n ∷ es) = refusal_after (before ++ elements.Key n ∷ []) es

in_two : (a b c : Option Refusal) → earliest (a ∷ b ∷ c ∷ []) ≡ earliest (earliest (a ∷ b ∷ []) ∷ c ∷ [])
in_two (Some r) b c = refl
in_two None (Some r) c = refl
in_two None None c = refl

or_swaps : (a b : Bool) → (a || b) ≡ (b || (a || false))
or_swaps true true = refl
or_swaps true false = refl
or_swaps false true = refl
or_swaps false false = refl

any_append : {A : Type 0} (test : A → Bool) (xs ys : List A) → list_any test (xs ++ ys) ≡ (list_any test xs || list_any test ys)
any_append test [] ys = refl
any_append test (x ∷ xs) ys = elim (test x) as (λ b. (b || list_any test (xs ++ ys)) ≡ ((b || list_any test xs) || list_any test ys)) [
  | true ↦ refl
  | false ↦ any_append test xs ys
]

-- the names are those of the columns before
abbrev NamesOf : List (List ℕ) → List Element → Type 0
NamesOf names before = (n : List ℕ) → is_among names n ≡ has_column_named (columns_in before) n

one_more : (names : List (List ℕ)) (before : List Element) (d : ColumnDef) → NamesOf names before → NamesOf (d.name ∷ names) (before ++ elements.Column d ∷ [])
one_more names before d same n =
    ap (λ b. bytes_eq d.name n || b) (same n)
    ∙ or_swaps (bytes_eq d.name n) (has_column_named (columns_in before) n)
    ∙ sym (any_append (λ (c : ColumnDef). bytes_eq c.name n) (columns_in before) (d ∷ []))
    ∙ ap (λ ds. has_column_named ds n) (sym (filter_map-append column_in before (elements.Column d ∷ [])))

same_names : (names : List (List ℕ)) (before : List Element) (m : List ℕ) → NamesOf names before → NamesOf names (before ++ elements.Key m ∷ [])
same_names names before m same n =
    same n
    ∙ no_more (has_column_named (columns_in before) n)
    ∙ sym (any_append (λ (c : ColumnDef). bytes_eq c.name n) (columns_in before) [])
    ∙ ap (λ ds. has_column_named ds n) (sym (filter_map-append column_in before (elements.Key m ∷ []))) where
      no_more : (b : Bool) → b ≡ (b || false)
      no_more true = refl
      no_more false = refl

after_all : (names : List (List ℕ)) (before es : List Element) → NamesOf names before → columns_refusal names (columns_in es) ≡ refusal_after before es
after_all names before [] same = refl
after_all names before (elements.Column d ∷ es) same =
    ap (λ b. earliest (when b (refusals.Exists d.name) ∷ column_width_refusal d.ty ∷ columns_refusal (d.name ∷ names) (columns_in es) ∷ [])) (same d.name)
    ∙ in_two (when (has_column_named (columns_in before) d.name) (refusals.Exists d.name)) (column_width_refusal d.ty) (columns_refusal (d.name ∷ names) (columns_in es))
    ∙ ap (λ r. earliest (refusal_at before d ∷ r ∷ [])) (after_all (d.name ∷ names) (before ++ elements.Column d ∷ []) es (one_more names before d same))
after_all names before (elements.Key m ∷ es) same = after_all names (before ++ elements.Key m ∷ []) es (same_names names before m same)

pub after_none : (es : List Element) → columns_refusal [] (columns_in es) ≡ refusal_after [] es
after_none es = after_all [] [] es (λ n. refl)
