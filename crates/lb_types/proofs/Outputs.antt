-- What each form of item of a select list and of a join gives.
use Rattle.std.proofs.Common.{ℕ, ◌≡◌, refl, ap, ◌∙◌, List, [], ◌∷◌, Option, None, Some, Ok, false, length}
use Rattle.std.specs.List.{filter}
use Rattle.std.specs.Str.{bytes_eq}
use Rattle.std.specs.Prelude.{if◌then◌else◌}
use Rattle.lb_tree.specs.declared.query.Cond.{Cond}
use Rattle.lb_tree.specs.declared.query.Expr.{Expr}
use Rattle.lb_tree.specs.declared.query.Tab.{Tab}
use Rattle.lb_tree.specs.declared.query.Item.TheVariants as items
use Rattle.lb_tree.specs.declared.query.Join.TheVariants as join_forms
use Rattle.lb_names.specs.declared.place.Seen.{Seen}
use Rattle.lb_names.specs.Sights.{Name, correlation}
use Rattle.lb_names.specs.Scopes.{Catalogue}
use Rattle.lb_names.specs.Typed.{◌>>=◌, only_if}
use Rattle.lb_names.specs.Places.{Place}
use Rattle.lb_names.specs.Carriers.{Wanted, Shows, Joins}
use Rattle.lb_names.specs.SelectLists.{column_kinds, called, fit, star_outputs}
use Rattle.lb_names.specs.Typing.{means, says, shows, joins}
use Rattle.lb_types.specs.Within.{is_starred}
use Rattle.lb_walk.proofs.Opens as opens

-- `*` is for all items
pub all_starred : (own : List Seen) → filter (is_starred None) own ≡ own
all_starred [] = refl
all_starred (s ∷ own) = ap (λ rest. s ∷ rest) (all_starred own)

-- `x.*` is for those of that name
pub called_starred : (x : Name) (own : List Seen) → filter (is_starred (Some x)) own ≡ called x own
called_starred x [] = refl
called_starred x (s ∷ own) = ap (λ rest. if bytes_eq (correlation s.tab) x then s ∷ rest else rest) (called_starred x own)

module _ (C : Catalogue) where
  pub outputs_everything : (W : Wanted) (P : Place) (at : ℕ) → (shows C items.Everything).outputs W P at ≡ star_outputs C (filter (is_starred None) P.sight.own) W P at
  outputs_everything W P at = ap (λ (x : Shows). x.outputs W P at) (opens.shows_everything C) ∙ (λ i. star_outputs C (sym_all P.sight.own i) W P at) where
    sym_all : (own : List Seen) → own ≡ filter (is_starred None) own
    sym_all [] = refl
    sym_all (s ∷ own) = ap (λ rest. s ∷ rest) (sym_all own)

  pub outputs_allof : (a : Name) (W : Wanted) (P : Place) (at : ℕ) → (shows C (items.AllOf a)).outputs W P at ≡ star_outputs C (filter (is_starred (Some a)) P.sight.own) W P at
  outputs_allof a W P at = ap (λ (x : Shows). x.outputs W P at) (opens.shows_allof C a) ∙ (λ i. star_outputs C (sym_called P.sight.own i) W P at) where
    sym_called : (own : List Seen) → called a own ≡ filter (is_starred (Some a)) own
    sym_called [] = refl
    sym_called (s ∷ own) = ap (λ rest. if bytes_eq (correlation s.tab) a then s ∷ rest else rest) (sym_called own)

  pub outputs_value : (a : Expr) (b : Option Name) (W : Wanted) (P : Place) (at : ℕ) → (shows C (items.Value a b)).outputs W P at ≡ ((means C a).kind P at >>= λ x. only_if (fit W (x.0 ∷ [])) at (x.0 ∷ [], x.1))
  outputs_value a b W P at = ap (λ (x : Shows). x.outputs W P at) (opens.shows_value C a b)

  pub width_everything : (own : List Seen) → (shows C items.Everything).width own ≡ length (column_kinds C (filter (is_starred None) own))
  width_everything own = ap (λ (x : Shows). x.width own) (opens.shows_everything C) ∙ (λ i. length (column_kinds C (sym_all own i))) where
    sym_all : (own : List Seen) → own ≡ filter (is_starred None) own
    sym_all [] = refl
    sym_all (s ∷ own) = ap (λ rest. s ∷ rest) (sym_all own)

  pub width_allof : (a : Name) (own : List Seen) → (shows C (items.AllOf a)).width own ≡ length (column_kinds C (filter (is_starred (Some a)) own))
  width_allof a own = ap (λ (x : Shows). x.width own) (opens.shows_allof C a) ∙ (λ i. length (column_kinds C (sym_called own i))) where
    sym_called : (own : List Seen) → called a own ≡ filter (is_starred (Some a)) own
    sym_called [] = refl
    sym_called (s ∷ own) = ap (λ rest. if bytes_eq (correlation s.tab) a then s ∷ rest else rest) (sym_called own)

  pub width_value : (a : Expr) (b : Option Name) (own : List Seen) → (shows C (items.Value a b)).width own ≡ 1
  width_value a b own = ap (λ (x : Shows). x.width own) (opens.shows_value C a b)

  pub total_everything : (shows C items.Everything).total ≡ false
  total_everything = ap (λ (x : Shows). x.total) (opens.shows_everything C)

  pub total_allof : (a : Name) → (shows C (items.AllOf a)).total ≡ false
  total_allof a = ap (λ (x : Shows). x.total) (opens.shows_allof C a)

  pub total_value : (a : Expr) (b : Option Name) → (shows C (items.Value a b)).total ≡ (means C a).total
  total_value a b = ap (λ (x : Shows). x.total) (opens.shows_value C a b)

  pub typed_inner : (a : Tab) (b : Cond) (P : Place) (at : ℕ) → (joins C (join_forms.Inner a b)).typed P at ≡ ((says C b).typed P at >>= only_if (says C b).sure at)
  typed_inner a b P at = ap (λ (x : Joins). x.typed P at) (opens.joins_inner C a b)

  pub typed_left : (a : Tab) (b : Cond) (P : Place) (at : ℕ) → (joins C (join_forms.Left a b)).typed P at ≡ ((says C b).typed P at >>= only_if (says C b).sure at)
  typed_left a b P at = ap (λ (x : Joins). x.typed P at) (opens.joins_left C a b)

  pub typed_cross : (a : Tab) (P : Place) (at : ℕ) → (joins C (join_forms.Cross a)).typed P at ≡ Ok (tt, at)
  typed_cross a P at = ap (λ (x : Joins). x.typed P at) (opens.joins_cross C a)
