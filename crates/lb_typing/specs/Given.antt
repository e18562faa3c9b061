-- What the types of statements give, as the definitions see it. Only contracts of private functions cite these.
use Rattle.std.specs.Prelude.{ℕ, ◌≡◌, List, Option, None, Some, Result, Ok, Err}
use Rattle.lb_tree.specs.declared.query.Atom.TheVariants as atoms
use Rattle.lb_tree.specs.declared.query.Column.{Column}
use Rattle.lb_tree.specs.declared.query.Cond.TheOpen as layers
use Rattle.lb_tree.specs.Folds.{Written}
use Rattle.lb_names.specs.declared.refused.Refused.{Refused}
use Rattle.lb_names.specs.declared.refused.Refused.TheVariants.{Types}
use Rattle.lb_names.specs.Kinds.{Kind, takes}
use Rattle.lb_names.specs.Typed.{Typed, ◌>>=◌, only_if}
use Rattle.lb_names.specs.Places.{Place}
use Rattle.lb_names.specs.Carriers.{Means}
use Rattle.lb_names.specs.Statements.{is_taken_by}
use Rattle.lb_types.specs.declared.stop.Stop.{Stop}
use Rattle.lb_types.specs.declared.stop.Stop.TheVariants.{Broken, NoMemory}

-- the refusal of a broken node, none where there is none, unless memory ran out
abbrev pub Tells : Result ℕ Stop → Option Refused → Type 0
Tells (Ok n) r = r ≡ None
Tells (Err (Broken at)) r = r ≡ Some (Types at)
Tells (Err NoMemory) r = Unit {0}

-- a value has the kind of its column, or is broken itself
abbrev pub value_at : Place → Means → Kind → ℕ → Typed Kind
value_at P m w at = m.kind P at >>= λ x. only_if (takes w x.0) at x

-- the same of a column that may be missing
abbrev pub assignment_at : Place → Means → List Kind → ℕ → Typed Kind
assignment_at P m ws at = m.kind P at >>= λ x. only_if (is_taken_by ws x.0) at x

-- ---- keys of ORDER BY

-- the column, where the expression is a column as a whole
abbrev pub column_in : Written layers.Expr-F → Option Column
column_in (layers.Expr-F.Atom (atoms.Column c)) = Some c
column_in e = None
