-- What the rules of types say of the values that writes give, and of stored masks.
use Rattle.std.specs.Prelude.{ℕ, ◌≡◌, List, [], ◌∷◌, map, Some, None, Ok}
use Rattle.std.specs.List.{AllZip, AllByRecursion}
use Rattle.lb_base.specs.declared.key.Ty.{Ty}
use Rattle.lb_tree.specs.declared.query.Expr.{Expr}
use Rattle.lb_tree.specs.declared.query.Tab.{Tab}
use Rattle.lb_stmt.specs.declared.write.Assignment.{Assignment}
use Rattle.lb_cat.specs.declared.catalog.MaskRec.{MaskRec}
use Rattle.lb_names.specs.Scopes.{Field, Catalogue, columns_of, field_named}
use Rattle.lb_names.specs.Statements.{set_place, row_typed, assignments_typed, mask_types_refused}
use Rattle.lb_mean.specs.Setting.{Setting, Env}
use Rattle.lb_mean.specs.Meaning.{value_of}
use Rattle.lb_kinds.specs.HasKind.{GivesKind}
use Rattle.lb_kinds.specs.Days.{days_in, AreDays}
use Rattle.lb_kinds.specs.Agreement.{AgreesOn}
use Rattle.lb_kinds.specs.Standing.{HoldsFor}
use Rattle.lb_kinds.specs.Settings.{masked, MaskFits}
use Rattle.lb_names.specs.Kinds.{kind_of}

-- each value of a row of VALUES without a broken node, of one value at least, is null or of the kind of its column's type
abbrev pub ValuesFit : Type 0
ValuesFit = (C : Catalogue) (S : Setting) → AgreesOn C S → (tys : List Ty) (e : Expr) (es : List Expr) → AllByRecursion (λ x. AreDays (days_in x)) (e ∷ es)
    → (n : ℕ) (y : Unit {0} × ℕ) → row_typed C (map kind_of tys) (e ∷ es) n ≡ Ok y
    → AllZip (λ ty x. GivesKind S.policies (kind_of ty) (value_of S x [])) tys (e ∷ es)

-- an assignment gives its column null or a value of the kind of the column's type
abbrev pub IsGiven : Setting → List Field → Env → Assignment → Type 0
IsGiven S fields env a = (ty : Ty) (f : Field) → field_named a.column fields ≡ Some f → f.kind ≡ kind_of ty → GivesKind S.policies (kind_of ty) (value_of S a.value env)

-- so it is of each assignment of a SET without a broken node, for each row of the target
abbrev pub AssignmentsFit : Type 0
AssignmentsFit = (C : Catalogue) (S : Setting) → AgreesOn C S → (target : Tab) (env : Env) → HoldsFor C S (set_place target) None env
    → (fields : List Field) (given : List Assignment) → AllByRecursion (λ a. AreDays (days_in a.value)) given
    → (n : ℕ) (y : Unit {0} × ℕ) → assignments_typed C fields (set_place target) given n ≡ Ok y
    → AllByRecursion (IsGiven S fields env) given

-- a stored mask that the rules of types don't refuse fits its column
abbrev pub CheckedMasksFit : Type 0
CheckedMasksFit = (K : Catalogue) (n : List ℕ) (m : MaskRec) (column : List ℕ) (ty : Ty) (f : Field)
    → field_named column (columns_of K (masked n m)) ≡ Some f → f.kind ≡ kind_of ty → AreDays (days_in m.value)
    → mask_types_refused K (masked n m) column m.value ≡ None → MaskFits K n m ty
