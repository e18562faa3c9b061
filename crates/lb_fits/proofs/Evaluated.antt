-- What SET and VALUES evaluate for the columns that they name, where no rule of types is broken.
use Rattle.std.proofs.Common.{ℕ, ◌≡◌, refl, sym, subst, Bool, true, false, ◌⊎◌, inl, inr, List, [], ◌∷◌, map, Option, Some, None, Ok, Err, unwrap_or}
use Rattle.std.specs.List.{AllByRecursion, AllZip, cons_option}
use Rattle.lb_base.specs.declared.key.Ty.{Ty}
use Rattle.lb_base.specs.declared.value.Value.{Value}
use Rattle.lb_base.specs.Evaluated.{Evaluated, each}
use Rattle.lb_tree.specs.declared.query.Expr.{Expr}
use Rattle.lb_tree.specs.declared.query.Tab.{Tab}
use Rattle.lb_stmt.specs.declared.write.Assignment.{Assignment}
use Rattle.lb_cat.specs.declared.catalog.ColumnRec.{ColumnRec}
use Rattle.lb_cat.specs.Catalog.{Cat, Table, policy_named}
use Rattle.lb_names.specs.Kinds.{Kind, kind_of}
use Rattle.lb_names.specs.Sights.{Name, or_name}
use Rattle.lb_names.specs.Scopes.{Field, Catalogue, field_named}
use Rattle.lb_names.specs.Typed.{Typed, only_if, ◌>>=◌}
use Rattle.lb_names.specs.Statements.{broken, kind_in, kind_wanted, is_taken_by, set_place, row_typed, rows_typed, assignments_typed}
use Rattle.lb_names.specs.Typing.{means as typed}
use Rattle.lb_mean.specs.Meaning.{means, value_of}
use Rattle.lb_mean.specs.Setting.{Setting, Env, given as none_faulty}
use Rattle.lb_answer.specs.Answer.{places_of}
use Rattle.lb_kinds.specs.Agreement.{RowFits, CellsFit}
use Rattle.lb_kinds.specs.Days.{days_in, AreDays}
use Rattle.lb_kinds.specs.HasKind.{Policies, HasKind, GivesKind, IfResult}
use Rattle.lb_kinds.specs.Settings.{SameColumn}
use Rattle.lb_fits.specs.Given.{ArePlaced}
use Rattle.lb_fits.proofs.Columns.{Loose}
use Rattle.lb_fits.proofs.Targets.{Missing, Column, look, Holds, holds, none_placed, value_placed, one_more, each_placed}

-- ---- typings that break no rule

pub record Bound {A B : Type 0} (r : Typed A) (f : A × ℕ → Typed B) (y : B × ℕ) : Type 0 where
  pub it : A × ℕ
  pub is : r ≡ Ok it
  pub then : f it ≡ Ok y

pub bound : {A B : Type 0} (r : Typed A) (f : A × ℕ → Typed B) (y : B × ℕ) → (r >>= f) ≡ Ok y → Bound r f y
bound (Ok x) f y e = record { it = x; is = refl; then = e }
bound (Err at) f y e = absurd cc

pub record Unbroken {A : Type 0} (r : Typed A) : Type 0 where
  pub it : A × ℕ
  pub is : r ≡ Ok it

pub unbroken : {A : Type 0} (r : Typed A) → broken r ≡ None → Unbroken r
unbroken (Ok x) e = record { it = x; is = refl }
unbroken (Err at) e = absurd cc

only_true : {A : Type 0} (b : Bool) (at : ℕ) (x y : A × ℕ) → only_if b at x ≡ Ok y → b ≡ true
only_true true at x y e = refl
only_true false at x y e = absurd cc

-- ---- rows as names and types know them

pub of_fields : (C : Cat) (fields : List Field) (columns : List ColumnRec) (row : List Value) → AllZip SameColumn fields columns → Loose C columns row → RowFits (policy_named C) fields row
of_fields C [] [] [] s h = tt
of_fields C [] [] (v ∷ row) s h = absurd h
of_fields C [] (c ∷ columns) row s h = absurd s
of_fields C (f ∷ fields) [] row s h = absurd s
of_fields C (f ∷ fields) (c ∷ columns) [] s h = absurd h
of_fields C (f ∷ fields) (c ∷ columns) (v ∷ row) s h = (subst (λ (k : Kind). HasKind (policy_named C) k v) (sym s.0.1) h.0, of_fields C fields columns row s.1 h.1)

pub cells_fit : (policies : Policies) (fields : List Field) (row : List Value) → RowFits policies fields row → CellsFit policies fields (none_faulty row)
cells_fit policies [] [] h = tt
cells_fit policies [] (v ∷ row) h = absurd h
cells_fit policies (f ∷ fields) [] h = absurd h
cells_fit policies (f ∷ fields) (v ∷ row) h = (h.0, cells_fit policies fields row h.1)

pub same_call : (o : Option Name) (n : Name) → unwrap_or o n ≡ or_name o n
same_call None n = refl
same_call (Some m) n = refl

-- ---- SET

module _ (N : Catalogue) (S : Setting) (C : Cat) (t : Table) (env : Env) (fields : List Field) (s : AllZip SameColumn fields t.columns) where
  abbrev pub Gives : Assignment → Type 0
  Gives a = (ty : Ty) (f : Field) → field_named a.column fields ≡ Some f → f.kind ≡ kind_of ty → GivesKind (policy_named C) (kind_of ty) (value_of S a.value env)

  abbrev pub outs : List Assignment → List (Evaluated Value)
  outs sets = map (λ m. m.value env) (map (λ a. means S a.value) sets)

  set_on : (a : Assignment) (sets : List Assignment) (k : Kind) → is_taken_by (kind_wanted fields a.column) k ≡ true → Gives a → IfResult (ArePlaced C t (places_of t (map (λ x. x.column) sets))) (each (outs sets))
      → Missing fields t.columns a.column 0 ⊎ Column fields t.columns a.column 0 → IfResult (ArePlaced C t (places_of t (map (λ x. x.column) (a ∷ sets)))) (each (outs (a ∷ sets)))
  set_on a sets k taken g rest (inl m) = absurd (none_taken (field_named a.column fields) m.named taken)
    where
      none_taken : (o : Option Field) → o ≡ None → is_taken_by (kind_in o) k ≡ true → ⊥
      none_taken None e h = absurd cc
      none_taken (Some f) e h = absurd cc
  set_on a sets k taken g rest (inr c) =
      subst (λ (o : Option ℕ). IfResult (ArePlaced C t (cons_option o (places_of t (map (λ x. x.column) sets)))) (each (outs (a ∷ sets)))) (sym c.placed)
      (one_more C t c.place (places_of t (map (λ x. x.column) sets)) (value_of S a.value env) (each (outs sets))
      (value_placed C t c.column.ty c.place (value_of S a.value env) (holds t fields a.column c) (g c.column.ty c.field c.named c.kind)) rest)

  pub set_placed : (target : Tab) (sets : List Assignment) (n : ℕ) (y : Unit {0} × ℕ) → assignments_typed N fields (set_place target) sets n ≡ Ok y → AllByRecursion Gives sets → IfResult (ArePlaced C t (places_of t (map (λ x. x.column) sets))) (each (outs sets))
  set_placed target [] n y e g = tt
  set_placed target (a ∷ sets) n y e g =
      let b = bound ((typed N a.value).kind (set_place target) n) (λ x. only_if (is_taken_by (kind_wanted fields a.column) x.0) n x >>= λ v. assignments_typed N fields (set_place target) sets v.1) y e in
      let f = bound (only_if (is_taken_by (kind_wanted fields a.column) b.it.0) n b.it) (λ v. assignments_typed N fields (set_place target) sets v.1) y b.then in
      set_on a sets b.it.0 (only_true (is_taken_by (kind_wanted fields a.column) b.it.0) n b.it f.it f.is) g.0 (set_placed target sets f.it.1 y f.then g.1) (look fields t.columns s a.column 0)

-- ---- VALUES

module _ (N : Catalogue) (S : Setting) (C : Cat) (t : Table) (tys : List Ty) (places : List ℕ) (h : AllZip (Holds t) tys places) where
  abbrev pub GivesEach : List Ty → List Expr → Type 0
  GivesEach ts es = AllZip (λ ty x. GivesKind (policy_named C) (kind_of ty) (value_of S x [])) ts es

  abbrev pub found : List Expr → List (Evaluated Value)
  found es = map (λ m. m.value []) (map (means S) es)

  each_given : (ts : List Ty) (es : List Expr) → GivesEach ts es → AllZip (λ ty out. GivesKind (policy_named C) (kind_of ty) out) ts (found es)
  each_given [] [] g = tt
  each_given [] (x ∷ es) g = absurd g
  each_given (ty ∷ ts) [] g = absurd g
  each_given (ty ∷ ts) (x ∷ es) g = (g.0, each_given ts es g.1)

  abbrev pub RowGives : Type 0
  RowGives = (e : Expr) (es : List Expr) → AllByRecursion (λ x. AreDays (days_in x)) (e ∷ es) → (n : ℕ) (y : Unit {0} × ℕ) → row_typed N (map kind_of tys) (e ∷ es) n ≡ Ok y → GivesEach tys (e ∷ es)

  row_given : RowGives → (es : List Expr) → AllByRecursion (λ x. AreDays (days_in x)) es → (n : ℕ) (y : Unit {0} × ℕ) → row_typed N (map kind_of tys) es n ≡ Ok y → IfResult (ArePlaced C t places) (each (found es))
  row_given law [] d n y e = none_placed C t places
  row_given law (x ∷ es) d n y e = each_placed C t tys places (found (x ∷ es)) h (each_given tys (x ∷ es) (law x es d n y e))

  pub rows_given : RowGives → (rows : List (List Expr)) → AllByRecursion (λ es. AllByRecursion (λ x. AreDays (days_in x)) es) rows → (n : ℕ) (y : Unit {0} × ℕ) → rows_typed N (map kind_of tys) rows n ≡ Ok y
      → AllByRecursion (λ es. IfResult (ArePlaced C t places) (each (found es))) rows
  rows_given law [] d n y e = tt
  rows_given law (es ∷ rows) d n y e =
      let b = bound (row_typed N (map kind_of tys) es n) (λ x. rows_typed N (map kind_of tys) rows x.1) y e in
      (row_given law es d.0 n b.it b.is, rows_given law rows d.1 b.it.1 y b.then)
