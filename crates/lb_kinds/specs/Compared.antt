-- A condition without a broken node compares values of one kind.
use Rattle.std.specs.Prelude.{ℕ, ◌≡◌, List, Option, Ok}
use Rattle.std.specs.List.{AllByRecursion}
use Rattle.lb_base.specs.declared.value.Value.{Value}
use Rattle.lb_tree.specs.declared.query.Comparison.{Comparison}
use Rattle.lb_tree.specs.declared.query.Expr.{Expr}
use Rattle.lb_tree.specs.declared.query.Cond.{Cond}
use Rattle.lb_tree.specs.declared.query.Cond.TheVariants as conds
use Rattle.lb_tree.specs.declared.query.Query.{Query}
use Rattle.lb_names.specs.Kinds.{Kind}
use Rattle.lb_names.specs.Scopes.{Catalogue}
use Rattle.lb_names.specs.Places.{Place}
use Rattle.lb_names.specs.Typing.{says as typed_cond}
use Rattle.lb_mean.specs.Setting.{Setting, Env}
use Rattle.lb_mean.specs.Conditions.{all_rows, first_output, scalar}
use Rattle.lb_mean.specs.Meaning.{value_of, answers}
use Rattle.lb_kinds.specs.HasKind.{HasKind, GivesKind}
use Rattle.lb_kinds.specs.Days.{days_in_cond, AreDays}
use Rattle.lb_kinds.specs.Agreement.{AgreesOn}
use Rattle.lb_kinds.specs.Standing.{StandsIn, IsBelow, HoldsFor}

-- an environment that holds for a place, and a condition without a broken node there
pub record TypedCond (C : Catalogue) (S : Setting) (env : Env) (c : Cond) : Type 0 where
  pub agrees : AgreesOn C S
  pub place : Place
  pub home : Option ℕ
  pub holds : HoldsFor C S place home env
  pub below : IsBelow home place.sight
  pub stands : StandsIn C place home ((typed_cond C c).marks place.sight)
  pub days : AreDays (days_in_cond c)
  pub number : ℕ
  pub after : Unit {0} × ℕ
  pub typed : (typed_cond C c).typed place number ≡ Ok after

-- both sides of a comparison are null or of one kind
abbrev pub ComparesOneKind : Type 0
ComparesOneKind = (C : Catalogue) (S : Setting) (env : Env) (by : Comparison) (a b : Expr) → TypedCond C S env (conds.Compare by a b)
    → (k : Kind) × GivesKind S.policies k (value_of S a env) × GivesKind S.policies k (value_of S b env)

-- so are a value and those of the list of IN
abbrev pub ListHasOneKind : Type 0
ListHasOneKind = (C : Catalogue) (S : Setting) (env : Env) (a : Expr) (es : List Expr) → TypedCond C S env (conds.InList a es)
    → (k : Kind) × GivesKind S.policies k (value_of S a env) × AllByRecursion (λ e. GivesKind S.policies k (value_of S e env)) es

-- and a value and the bounds of BETWEEN
abbrev pub BoundsHaveOneKind : Type 0
BoundsHaveOneKind = (C : Catalogue) (S : Setting) (env : Env) (a low high : Expr) → TypedCond C S env (conds.Between a low high)
    → (k : Kind) × GivesKind S.policies k (value_of S a env) × GivesKind S.policies k (value_of S low env) × GivesKind S.policies k (value_of S high env)

-- a value and that of a scalar subquery
abbrev pub ScalarHasOneKind : Type 0
ScalarHasOneKind = (C : Catalogue) (S : Setting) (env : Env) (by : Comparison) (a : Expr) (q : Query) → TypedCond C S env (conds.CompareQuery by a q)
    → (k : Kind) × GivesKind S.policies k (value_of S a env) × GivesKind S.policies k (scalar (answers S q) env)

-- a value and the outputs of the subquery of IN
abbrev pub RowsHaveOneKind : Type 0
RowsHaveOneKind = (C : Catalogue) (S : Setting) (env : Env) (a : Expr) (q : Query) → TypedCond C S env (conds.InQuery a q)
    → (k : Kind) × GivesKind S.policies k (value_of S a env)
    × ((rows : List (List Value)) → all_rows (answers S q) env ≡ Ok rows → AllByRecursion (λ row. HasKind S.policies k (first_output row)) rows)
