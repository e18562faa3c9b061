-- A qualified condition or CASE keeps its types when tables get more columns.
use Rattle.std.proofs.Common.{◌≡◌, refl, ap, ◌∙◌, [], true, not, ◌&&◌, Option, Some, None, Ok, Err}
use Rattle.std.specs.List.{list_any}
use Rattle.lb_tree.specs.declared.query.Tab.{Tab}
use Rattle.lb_tree.specs.declared.query.Cond.{Cond}
use Rattle.lb_tree.specs.declared.query.Expr.{Expr}
use Rattle.lb_names.specs.Sights.{Name}
use Rattle.lb_names.specs.Kinds.{Kind, is_label, takes}
use Rattle.lb_names.specs.Scopes.{Field, Catalogue, field_named, columns_of}
use Rattle.lb_names.specs.Typed.{Typed, ◌>>=◌, only_if}
use Rattle.lb_names.specs.Typing.{says, means}
use Rattle.lb_names.specs.Qualified.{are_qualified, are_qualified_in}
use Rattle.lb_names.specs.Statements.{broken, stored_place, kind_in, kind_wanted, mask_takes, permission_types_refused, mask_types_refused}
use Rattle.lb_names.specs.Growing.{IsGrown}
use Rattle.lb_names.proofs.GrownNames.{field_stays}
use Rattle.lb_names.proofs.GrownLists as l
use Rattle.lb_names.proofs.GrownTypes.{grown_cond, grown_expr}
use Rattle.std.proofs.Math.Nat.{lt-suc_self}

unbroken : {A : Type 0} (t u : Typed A) → l.Implies t u → broken t ≡ None → broken u ≡ None
unbroken (Ok x) u h e = ap broken h
unbroken (Err at) u h e = absurd cc

module _ (C D : Catalogue) (g : IsGrown C D) where
  of_cond : (c : Cond) → are_qualified c ≡ true → l.KeepSays (says C c) (says D c)
  unfolding are_qualified says
  of_cond c q = grown_cond C D g c q

  of_expr : (e : Expr) → are_qualified_in e ≡ true → l.KeepMeans (means C e) (means D e)
  unfolding are_qualified_in means
  of_expr e q = grown_expr C D g e q

  good : (tab : Tab) → l.GoodPlace (stored_place tab)
  good tab = (refl, ((lt-suc_self 0, tt), tt))

  pub permission_types_stay : (tab : Tab) (c : Cond) → are_qualified c ≡ true → permission_types_refused C tab c ≡ None → permission_types_refused D tab c ≡ None
  permission_types_stay tab c q h = unbroken ((says C c).typed (stored_place tab) 0) ((says D c).typed (stored_place tab) 0) ((of_cond c q).0 (stored_place tab) [] (good tab) tt 0) h

  takes_stay : (tab : Tab) (column : Name) (k : Kind) (o : Option Field) → field_named column (columns_of C tab) ≡ o → mask_takes C (kind_in o) k ≡ true → mask_takes D (kind_wanted (columns_of D tab) column) k ≡ true
  takes_stay tab column k None e h = absurd cc
  takes_stay tab column k (Some f) e h = (λ i. list_any (λ w. not (is_label w) && takes w k) (kind_in (field_stays C D g column tab f e i))) ∙ h

  pub mask_types_stay : (tab : Tab) (column : Name) (e : Expr) → are_qualified_in e ≡ true → mask_types_refused C tab column e ≡ None → mask_types_refused D tab column e ≡ None
  mask_types_stay tab column e q h =
      unbroken _ ((means D e).kind (stored_place tab) 0 >>= λ x. only_if (mask_takes D (kind_wanted (columns_of D tab) column) x.0) 0 x)
      (l.bind _ _ (λ x. only_if (mask_takes C (kind_wanted (columns_of C tab) column) x.0) 0 x) _ ((of_expr e q).0 (stored_place tab) [] (good tab) tt 0) (λ x. l.only_keep (mask_takes C (kind_wanted (columns_of C tab) column) x.0) (mask_takes D (kind_wanted (columns_of D tab) column) x.0) 0 x (takes_stay tab column x.0 (field_named column (columns_of C tab)) refl))) h
