-- Values that writes give, and stored masks, fit their columns where the rules of types refuse nothing.
use Rattle.std.proofs.Common.{ℕ, pred, suc-ne-zero, eqb-true, ◌≡◌, refl, sym, subst, ap, Bool, true, false, not, ◌&&◌, ◌||◌, ◌==◌, List, [], ◌∷◌, map, length, Option, Some, None, Ok, Err, if◌then◌else◌}
use Rattle.std.specs.List.{AllZip, AllByRecursion}
use Rattle.lb_base.specs.declared.key.Ty.{Ty}
use Rattle.lb_tree.specs.declared.query.Expr.{Expr}
use Rattle.lb_tree.specs.declared.query.Tab.{Tab}
use Rattle.lb_stmt.specs.declared.write.Assignment.{Assignment}
use Rattle.lb_names.specs.declared.refused.Refused.TheVariants.{Types}
use Rattle.lb_names.specs.Kinds.{Kind, is_label, takes, kind_of}
use Rattle.lb_names.specs.Scopes.{Field, Catalogue, columns_of, field_named}
use Rattle.lb_names.specs.Typed.{Typed, ◌>>=◌, only_if}
use Rattle.lb_names.specs.Places.{Place}
use Rattle.lb_names.specs.Statements.{broken, values_place, set_place, stored_place, kind_in, kind_wanted, is_taken_by, mask_takes, values_typed, first_broken, assignments_typed}
use Rattle.lb_names.specs.Typing.{means as typed}
use Rattle.lb_mean.specs.Setting.{Setting, Env}
use Rattle.lb_mean.specs.Meaning.{value_of}
use Rattle.lb_kinds.specs.HasKind.{GivesKind}
use Rattle.lb_kinds.specs.Days.{days_in, AreDays}
use Rattle.lb_kinds.specs.Agreement.{AgreesOn}
use Rattle.lb_kinds.specs.Standing.{HoldsFor}
use Rattle.lb_kinds.specs.Settings.{masked}
use Rattle.lb_kinds.specs.Given.{ValuesFit, IsGiven, AssignmentsFit, CheckedMasksFit}
use Rattle.lb_kinds.proofs.Results.{no_err, no_none, no_false}
use Rattle.lb_kinds.proofs.Values.{gives_within}
use Rattle.lb_kinds.proofs.Typings.{Bound, bound, is_if}
use Rattle.lb_kinds.proofs.Expressions.{expressions_give}
use Rattle.lb_kinds.proofs.Begins.{nothing_holds}
use Rattle.lb_kinds.proofs.Settings.{taken_fits}

-- ---- VALUES

module _ (C : Catalogue) (S : Setting) (agrees : AgreesOn C S) where
  -- a value that its column takes, where it stands in a write
  taken_gives : (P : Place) (env : Env) → HoldsFor C S P None env → P.within ≡ false → (ty : Ty) (e : Expr) → AreDays (days_in e) → (n m : ℕ) (k : Kind) → (typed C e).kind P n ≡ Ok (k, m) → takes (kind_of ty) k ≡ true
      → GivesKind S.policies (kind_of ty) (value_of S e env)
  taken_gives P env holds w ty e d n m k t i =
      gives_within S.policies k (kind_of ty) (λ v. taken_fits S.policies ty k v i) (value_of S e env) (expressions_give C S agrees P None env holds e w d n m k t)

  abbrev Fits : Ty → Expr → Type 0
  Fits ty e = GivesKind S.policies (kind_of ty) (value_of S e [])

  each_fits : (tys : List Ty) (es : List Expr) → AllByRecursion (λ x. AreDays (days_in x)) es → length (map kind_of tys) ≡ length es → (n : ℕ) (y : Unit {0} × ℕ) → values_typed C (map kind_of tys) es n ≡ Ok y → AllZip Fits tys es
  each_fits [] [] d s n y e = tt
  each_fits [] (x ∷ es) d s n y e = absurd (suc-ne-zero (length es) (sym s))
  each_fits (ty ∷ tys) [] d s n y e = absurd (suc-ne-zero (length (map kind_of tys)) s)
  each_fits (ty ∷ tys) (x ∷ es) d s n y e =
      let b : Bound ((typed C x).kind values_place n) (λ z. only_if (takes (kind_of ty) z.0) n z >>= λ v. values_typed C (map kind_of tys) es v.1) y = bound ((typed C x).kind values_place n) (λ z. only_if (takes (kind_of ty) z.0) n z >>= λ v. values_typed C (map kind_of tys) es v.1) y e in
      let f : Bound (only_if (takes (kind_of ty) b.0.0) n b.0) (λ v. values_typed C (map kind_of tys) es v.1) y = bound (only_if (takes (kind_of ty) b.0.0) n b.0) (λ v. values_typed C (map kind_of tys) es v.1) y b.2 in (
        taken_gives values_place [] (nothing_holds C S values_place refl) refl ty x d.0 n b.0.1 b.0.0 b.1 (is_if (takes (kind_of ty) b.0.0) n b.0 f.0 f.1).0,
        each_fits tys es d.1 (ap pred s) f.0.1 y f.2,
      )

  row_step : (b : Bool) (tys : List Ty) (e : Expr) (es : List Expr) → AllByRecursion (λ x. AreDays (days_in x)) (e ∷ es) → (n : ℕ) (y : Unit {0} × ℕ) → (length (map kind_of tys) == length (e ∷ es)) ≡ b
      → (if b then values_typed C (map kind_of tys) (e ∷ es) n else first_broken C (e ∷ es) n) ≡ Ok y → AllZip Fits tys (e ∷ es)
  row_step true tys e es d n y s t = each_fits tys (e ∷ es) d (eqb-true (length (map kind_of tys)) (length (e ∷ es)) s) n y t
  row_step false tys e es d n y s t =
      let b : Bound ((typed C e).kind values_place n) (λ x. Err n) y = bound ((typed C e).kind values_place n) (λ x. Err n) y t in
      absurd (no_err {A = Unit {0} × ℕ} n y b.2)

  -- ---- SET

  one_of_field : (o : Option Field) (f : Field) (k : Kind) → o ≡ Some f → is_taken_by (kind_in o) k ≡ true → takes f.kind k ≡ true
  one_of_field o f k p t = alone (takes f.kind k) (subst (λ z. is_taken_by (kind_in z) k ≡ true) p t)
    where
      alone : (b : Bool) → (b || false) ≡ true → b ≡ true
      alone true e = refl
      alone false e = e

  assignments_fit_from : (target : Tab) (env : Env) → HoldsFor C S (set_place target) None env → (fields : List Field) (given : List Assignment) → AllByRecursion (λ a. AreDays (days_in a.value)) given
      → (n : ℕ) (y : Unit {0} × ℕ) → assignments_typed C fields (set_place target) given n ≡ Ok y → AllByRecursion (IsGiven S fields env) given
  assignments_fit_from target env holds fields [] d n y e = tt
  assignments_fit_from target env holds fields (a ∷ given) d n y e =
      let b : Bound ((typed C a.value).kind (set_place target) n) (λ x. only_if (is_taken_by (kind_wanted fields a.column) x.0) n x >>= λ v. assignments_typed C fields (set_place target) given v.1) y =
      bound ((typed C a.value).kind (set_place target) n) (λ x. only_if (is_taken_by (kind_wanted fields a.column) x.0) n x >>= λ v. assignments_typed C fields (set_place target) given v.1) y e in
      let f : Bound (only_if (is_taken_by (kind_wanted fields a.column) b.0.0) n b.0) (λ v. assignments_typed C fields (set_place target) given v.1) y =
      bound (only_if (is_taken_by (kind_wanted fields a.column) b.0.0) n b.0) (λ v. assignments_typed C fields (set_place target) given v.1) y b.2 in (
        λ ty field p q. taken_gives (set_place target) env holds refl ty a.value d.0 n b.0.1 b.0.0 b.1
            (subst (λ w. takes w b.0.0 ≡ true) q (one_of_field (field_named a.column fields) field b.0.0 p (is_if (is_taken_by (kind_wanted fields a.column) b.0.0) n b.0 f.0 f.1).0)),
        assignments_fit_from target env holds fields given d.1 f.0.1 y f.2,
      )

pub values_fit : ValuesFit
values_fit C S agrees tys e es d n y t = row_step C S agrees (length (map kind_of tys) == length (e ∷ es)) tys e es d n y refl t

pub assignments_fit : AssignmentsFit
assignments_fit C S agrees target env holds fields given d n y e = assignments_fit_from C S agrees target env holds fields given d n y e

-- ---- masks

unbroken : {A : Type 0} (r : Typed A) → broken r ≡ None → (x : A × ℕ) × (r ≡ Ok x)
unbroken (Ok x) e = (x, refl)
unbroken (Err at) e = absurd (no_none (Types at) (sym e))

mask_of_field : (K : Catalogue) (o : Option Field) (f : Field) (k : Kind) → o ≡ Some f → mask_takes K (kind_in o) k ≡ true → takes f.kind k ≡ true
mask_of_field K o f k p t = alone (not (is_label f.kind)) (takes f.kind k) (subst (λ z. mask_takes K (kind_in z) k ≡ true) p t)
  where
    alone : (a b : Bool) → ((a && b) || false) ≡ true → b ≡ true
    alone true true e = refl
    alone true false e = e
    alone false b e = absurd (no_false e)

pub checked_masks_fit : CheckedMasksFit
checked_masks_fit K n m column ty f p q d e =
    let r : (x : Kind × ℕ) × (((typed K m.value).kind (stored_place (masked n m)) 0 >>= λ x. only_if (mask_takes K (kind_wanted (columns_of K (masked n m)) column) x.0) 0 x) ≡ Ok x) =
    unbroken ((typed K m.value).kind (stored_place (masked n m)) 0 >>= λ x. only_if (mask_takes K (kind_wanted (columns_of K (masked n m)) column) x.0) 0 x) e in
    let b : Bound ((typed K m.value).kind (stored_place (masked n m)) 0) (λ x. only_if (mask_takes K (kind_wanted (columns_of K (masked n m)) column) x.0) 0 x) r.0 =
    bound ((typed K m.value).kind (stored_place (masked n m)) 0) (λ x. only_if (mask_takes K (kind_wanted (columns_of K (masked n m)) column) x.0) 0 x) r.0 r.1 in
    record {
      kind = b.0.0;
      after = b.0.1;
      typed = b.1;
      takes = subst (λ w. takes w b.0.0 ≡ true) q (mask_of_field K (field_named column (columns_of K (masked n m))) f b.0.0 p (is_if (mask_takes K (kind_wanted (columns_of K (masked n m)) column) b.0.0) 0 b.0 r.0 b.2).0);
      days = d;
    }
