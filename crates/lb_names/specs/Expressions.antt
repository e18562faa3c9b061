-- The kinds of expressions.
use Rattle.std.specs.Prelude.{ℕ, Bool, false, ◌&&◌, ◌||◌, if◌then◌else◌, List, Option, Ok, Err}
use Rattle.std.specs.Str.{bytes_eq}
use Rattle.lb_tree.specs.declared.query.Aggregate.{Aggregate}
use Rattle.lb_tree.specs.declared.query.Function.{Function}
use Rattle.lb_tree.specs.declared.query.Atom.{Atom}
use Rattle.lb_tree.specs.declared.query.Atom.TheVariants as atoms
use Rattle.lb_tree.specs.declared.query.Cond.TheOpen as layers
use Rattle.lb_tree.specs.Folds.{Layer}
use Rattle.lb_names.specs.Sights.{Name}
use Rattle.lb_names.specs.Marks.{marks_in_expr, marks_in_arm, marks_in_choice}
use Rattle.lb_names.specs.Kinds.{Kind, Common, one, null, integer, text, date, label, is_one, is_plain, takes, aggregated, argument}
use Rattle.lb_names.specs.Scopes.{Catalogue, Resolved, resolve, spot_of}
use Rattle.lb_names.specs.Passes.{all_own}
use Rattle.lb_names.specs.Typed.{Typed, next, ◌>>=◌, only_if, one_of}
use Rattle.lb_names.specs.Places.{Place, in_aggregate, is_free}
use Rattle.lb_names.specs.Carriers.{Means, Arms, Choices, typing, typing_marks}
use Rattle.lb_names.specs.Sure.{PartTests, expr_totals, expr_sures}
use Rattle.lb_names.specs.Parts.{kind_of_all, kind_with, kind_of_any, kind_of_results, kinds_of_match}

-- the node of that number has the kind that its parts have in common
abbrev pub one_kind : ℕ → Common × ℕ → Typed Kind
one_kind at x = one_of at x.1 x.0

-- the node of that number has the kind that its parts have in common, which is no label's and not NULL's
abbrev pub plain_kind : ℕ → Common × ℕ → Typed Kind
plain_kind at x = if is_plain x.0 then one_kind at x else Err at

-- ---- leaves

-- a column has the kind of its field, and may stand there
abbrev pub kind_found : Place → ℕ → Resolved → Typed Kind
kind_found P at (Ok x) = only_if (is_free P (spot_of x.item x.field.name)) at (x.field.kind, next at)
kind_found P at (Err n) = Err at

-- it is a label of that policy
abbrev pub is_label_of : Name → Kind → Bool
is_label_of p (label q) = bytes_eq p q
is_label_of p _ = false

-- SECLABEL_TO_CHAR wants a label column of that policy, which is the node after it
abbrev pub atom_kind : Catalogue → Atom → Place → ℕ → Typed Kind
atom_kind C atoms.Null P at = Ok (null, next at)
atom_kind C (atoms.Int n) P at = Ok (integer, next at)
atom_kind C (atoms.Text t) P at = Ok (text, next at)
atom_kind C (atoms.Date d) P at = Ok (date, next at)
atom_kind C atoms.CurrentDate P at = Ok (date, next at)
atom_kind C atoms.SessionUser P at = Ok (text, next at)
atom_kind C (atoms.Column c) P at = kind_found P at (resolve C P.sight.seen c)
atom_kind C atoms.CountRows P at = only_if P.aggregates at (integer, next at)
atom_kind C (atoms.VerifyRole roles) P at = Ok (integer, next at)
atom_kind C (atoms.VerifyGroup groups) P at = Ok (integer, next at)
atom_kind C (atoms.SecLabel p t) P at = Ok (label p, next at)
atom_kind C (atoms.SecLabelByName p l) P at = Ok (label p, next at)
atom_kind C (atoms.SecLabelToChar p c) P at = kind_found P (next at) (resolve C P.sight.seen c) >>= λ x. only_if (is_label_of p x.0) at (text, x.1)

-- ---- nodes with parts

-- CASE: its results have one kind in common
unfoldable pub case_kind : List Arms → Option Means → Place → ℕ → Typed Kind
case_kind arms otherwise P at = kind_of_results arms otherwise P (next at) >>= plain_kind at

-- the kind of the results, where the operands have one kind in common
abbrev pub plain_results : ℕ → Common → Common × ℕ → Typed Kind
plain_results at operands y = if is_plain operands then plain_kind at y else Err at

-- its ELSE, after the kinds of its operands and results
abbrev pub match_kind : ℕ → Option Means → Place → (Common × Common) × ℕ → Typed Kind
match_kind at otherwise P x = kind_of_any x.0.1 otherwise P x.1 >>= plain_results at x.0.0

-- CASE with an operand
unfoldable pub match_kind_of : Means → List Choices → Option Means → Place → ℕ → Typed Kind
match_kind_of m choices otherwise P at = kinds_of_match m choices P (next at) >>= match_kind at otherwise P

-- SUBSTR of a text, from an integer on, as long as an integer
abbrev pub substr_kind : ℕ → Kind → Common × ℕ → Typed Kind
substr_kind at k z = only_if (takes text k && is_one z.0) at (text, z.1)

-- start and length of SUBSTR
unfoldable pub number_kind : Means → Option Means → Place → ℕ → Typed Common
number_kind from n P i = kind_with (one integer) from P i >>= λ x. kind_of_any x.0 n P x.1

-- SUBSTR after its text
abbrev pub substr_rest : ℕ → Means → Option Means → Place → Kind × ℕ → Typed Kind
substr_rest at from n P x = number_kind from n P x.1 >>= substr_kind at x.0

-- SUBSTR
unfoldable pub substr_kind_of : Means → Means → Option Means → Place → ℕ → Typed Kind
substr_kind_of m from n P at = m.kind P (next at) >>= substr_rest at from n P

-- a function of an argument of that kind gives an integer
abbrev pub function_kind : Function → ℕ → Kind × ℕ → Typed Kind
function_kind f at x = only_if (takes (argument f) x.0) at (integer, x.1)

-- LENGTH, YEAR, MONTH, DAY
unfoldable pub apply_kind : Function → Means → Place → ℕ → Typed Kind
apply_kind f m P at = m.kind P (next at) >>= function_kind f at

-- an aggregate may stand there, and its argument names columns of its own query alone
abbrev pub is_total_of : Catalogue → Means → Place → Bool
is_total_of C m P = P.aggregates && all_own C P.sight.level (m.marks P.sight)

-- an aggregate whose argument has that kind
abbrev pub aggregate_kind : Catalogue → Aggregate → Means → Place → ℕ → Kind × ℕ → Typed Kind
aggregate_kind C op m P at x = if is_total_of C m P then one_of at x.1 (aggregated op x.0) else Err at

-- the kind of an expression by those of its parts: `+ -`, `*` and SUM want integers, `||` texts
abbrev pub expr_kind : Catalogue → Layer typing layers.Expr-F → Place → ℕ → Typed Kind
expr_kind C (layers.Expr-F.Atom a) P at = atom_kind C a P at
expr_kind C (layers.Expr-F.Sum ms) P at = kind_of_all (one integer) ms P (next at) >>= one_kind at
expr_kind C (layers.Expr-F.Concat ms) P at = kind_of_all (one text) ms P (next at) >>= one_kind at
expr_kind C (layers.Expr-F.Product ms) P at = kind_of_all (one integer) ms P (next at) >>= one_kind at
expr_kind C (layers.Expr-F.Case arms otherwise) P at = case_kind arms otherwise P at
expr_kind C (layers.Expr-F.Match m choices otherwise) P at = match_kind_of m choices otherwise P at
expr_kind C (layers.Expr-F.Aggregate op m) P at = m.kind (in_aggregate P) (next at) >>= aggregate_kind C op m P at
expr_kind C (layers.Expr-F.Substr m from n) P at = substr_kind_of m from n P at
expr_kind C (layers.Expr-F.Apply f m) P at = apply_kind f m P at
expr_kind C (layers.Expr-F.Coalesce ms) P at = kind_of_all (one null) ms P (next at) >>= plain_kind at

-- ---- aggregates and arithmetic

-- it has an aggregate of its own query
abbrev pub is_total : Means → Bool
is_total m = m.total

-- it has no arithmetic and no subquery
abbrev pub is_sure : Means → Bool
is_sure m = m.sure

-- which parts have an aggregate of their query
abbrev pub totals : PartTests typing
totals = record { cond = λ c. c.total; expr = is_total; arm = λ x. x.when.total || x.result.total; choice = λ x. x.when.total || x.result.total; signed = is_total }

-- which parts are sure
abbrev pub sures : PartTests typing
sures = record { cond = λ c. c.sure; expr = is_sure; arm = λ x. x.when.sure && x.result.sure; choice = λ x. x.when.sure && x.result.sure; signed = is_sure }

-- no aggregate is arithmetic here: in ON, where this is asked, none may stand
abbrev pub no_aggregate : Aggregate → Bool
no_aggregate op = false

-- an expression, by its parts
abbrev pub expr_step : Catalogue → Layer typing layers.Expr-F → Means
expr_step C x = record { marks = marks_in_expr typing typing_marks x; kind = expr_kind C x; total = expr_totals totals x; sure = expr_sures sures no_aggregate x }

-- an arm of CASE, by its parts
abbrev pub arm_step : Layer typing layers.Arm-F → Arms
arm_step x = record { marks = marks_in_arm typing typing_marks x; when = x.when; result = x.result }

-- an arm of CASE with an operand, by its parts
abbrev pub choice_step : Layer typing layers.Choice-F → Choices
choice_step x = record { marks = marks_in_choice typing typing_marks x; when = x.when; result = x.result }

-- the sign of a part of a sum has no kind of its own
abbrev pub signed_step : Layer typing layers.Signed-F → Means
signed_step x = x.part
