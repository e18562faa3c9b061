-- The table of each form of join.
use Rattle.std.proofs.Common.{◌≡◌, ap}
use Rattle.lb_tree.specs.declared.query.Cond.{Cond}
use Rattle.lb_tree.specs.declared.query.Tab.{Tab}
use Rattle.lb_tree.specs.declared.query.Join.TheVariants as join_forms
use Rattle.lb_names.specs.Scopes.{Catalogue}
use Rattle.lb_names.specs.Carriers.{Joins}
use Rattle.lb_names.specs.Typing.{joins}
use Rattle.lb_walk.proofs.Opens as opens

module _ (C : Catalogue) where
  pub tab_inner : (a : Tab) (b : Cond) → (joins C (join_forms.Inner a b)).marked.tab ≡ a
  tab_inner a b = ap (λ (x : Joins). x.marked.tab) (opens.joins_inner C a b)

  pub tab_left : (a : Tab) (b : Cond) → (joins C (join_forms.Left a b)).marked.tab ≡ a
  tab_left a b = ap (λ (x : Joins). x.marked.tab) (opens.joins_left C a b)

  pub tab_cross : (a : Tab) → (joins C (join_forms.Cross a)).marked.tab ≡ a
  tab_cross a = ap (λ (x : Joins). x.marked.tab) (opens.joins_cross C a)
