-- Expressions that are the same, their columns compared by what they mean. None with a subquery is the same as another.
use Rattle.std.specs.Prelude.{ℤ, Bool, true, false, not, ◌&&◌, if◌then◌else◌, List, [], ◌∷◌, Option, Some, None, int_le}
use Rattle.std.specs.Str.{bytes_eq}
use Rattle.lb_tree.specs.declared.query.Comparison.{Comparison}
use Rattle.lb_tree.specs.declared.query.Comparison.TheVariants as comparisons
use Rattle.lb_tree.specs.declared.query.Aggregate.{Aggregate}
use Rattle.lb_tree.specs.declared.query.Aggregate.TheVariants as aggregates
use Rattle.lb_tree.specs.declared.query.Function.{Function}
use Rattle.lb_tree.specs.declared.query.Function.TheVariants as functions
use Rattle.lb_tree.specs.declared.query.Atom.{Atom}
use Rattle.lb_tree.specs.declared.query.Atom.TheVariants as atoms
use Rattle.lb_tree.specs.declared.query.Expr.{Expr}
use Rattle.lb_tree.specs.declared.query.Cond.{Cond}
use Rattle.lb_tree.specs.declared.query.Arm.{Arm}
use Rattle.lb_tree.specs.declared.query.Choice.{Choice}
use Rattle.lb_tree.specs.declared.query.Signed.{Signed}
use Rattle.lb_tree.specs.declared.query.Cond.TheOpen as layers
use Rattle.lb_tree.specs.declared.query.Cond.TheViews.{out-Cond, out-Expr}
use Rattle.lb_tree.specs.Folds.{Kinds, Layer, Steps, Written, expr_of}
use Rattle.lb_names.specs.declared.place.Seen.{Seen}
use Rattle.lb_names.specs.Sights.{Name}
use Rattle.lb_names.specs.Scopes.{Catalogue, same_column}

-- a part, as the test that another is the same
pub record Like (A : Type 0) : Type 0 where
  pub to : A → Bool

-- lists of one length, part by part
abbrev pub all_like : {A : Type 0} → List (Like A) → List A → Bool
all_like [] [] = true
all_like (f ∷ fs) (x ∷ xs) = f.to x && all_like fs xs
all_like _ _ = false

-- both missing, or both there and the same
abbrev pub both_like : {A : Type 0} → Option (Like A) → Option A → Bool
both_like None None = true
both_like (Some f) (Some x) = f.to x
both_like _ _ = false

-- both hold or neither does
abbrev pub same_flag : Bool → Bool → Bool
same_flag a b = if a then b else not b

-- the same operator
abbrev pub same_comparison : Comparison → Comparison → Bool
same_comparison comparisons.Equal comparisons.Equal = true
same_comparison comparisons.NotEqual comparisons.NotEqual = true
same_comparison comparisons.Less comparisons.Less = true
same_comparison comparisons.AtMost comparisons.AtMost = true
same_comparison comparisons.Greater comparisons.Greater = true
same_comparison comparisons.AtLeast comparisons.AtLeast = true
same_comparison _ _ = false

-- the same aggregate
abbrev pub same_aggregate : Aggregate → Aggregate → Bool
same_aggregate aggregates.Count aggregates.Count = true
same_aggregate aggregates.CountDistinct aggregates.CountDistinct = true
same_aggregate aggregates.Sum aggregates.Sum = true
same_aggregate aggregates.Min aggregates.Min = true
same_aggregate aggregates.Max aggregates.Max = true
same_aggregate _ _ = false

-- the same function
abbrev pub same_function : Function → Function → Bool
same_function functions.Length functions.Length = true
same_function functions.Year functions.Year = true
same_function functions.Month functions.Month = true
same_function functions.Day functions.Day = true
same_function _ _ = false

-- the same number
abbrev pub same_int : ℤ → ℤ → Bool
same_int m n = int_le m n && int_le n m

-- the same texts in the same order
abbrev pub same_names : List Name → List Name → Bool
same_names [] [] = true
same_names (x ∷ xs) (y ∷ ys) = bytes_eq x y && same_names xs ys
same_names _ _ = false

-- the same leaf
abbrev pub same_atom : Catalogue → List Seen → Atom → Atom → Bool
same_atom C seen atoms.Null atoms.Null = true
same_atom C seen (atoms.Int m) (atoms.Int n) = same_int m n
same_atom C seen (atoms.Text t) (atoms.Text u) = bytes_eq t u
same_atom C seen (atoms.Date d) (atoms.Date e) = same_int d e
same_atom C seen atoms.CurrentDate atoms.CurrentDate = true
same_atom C seen atoms.SessionUser atoms.SessionUser = true
same_atom C seen (atoms.Column c) (atoms.Column d) = same_column C seen c d
same_atom C seen atoms.CountRows atoms.CountRows = true
same_atom C seen (atoms.VerifyRole xs) (atoms.VerifyRole ys) = same_names xs ys
same_atom C seen (atoms.VerifyGroup xs) (atoms.VerifyGroup ys) = same_names xs ys
same_atom C seen (atoms.SecLabel p t) (atoms.SecLabel q u) = bytes_eq p q && bytes_eq t u
same_atom C seen (atoms.SecLabelByName p l) (atoms.SecLabelByName q m) = bytes_eq p q && bytes_eq l m
same_atom C seen (atoms.SecLabelToChar p c) (atoms.SecLabelToChar q d) = bytes_eq p q && same_column C seen c d
same_atom C seen _ _ = false

-- what each kind of node gives; a query, its items and joins are the same as no other
abbrev pub liking : Kinds
liking = record { cond = Like Cond; expr = Like Expr; item = Unit {0}; join = Unit {0}; arm = Like Arm; chain = Unit {0}; choice = Like Choice; query = Unit {0}; signed = Like Signed }

-- the same form, and the parts the same
abbrev pub expr_like : Catalogue → List Seen → Layer liking layers.Expr-F → Written layers.Expr-F → Bool
expr_like C seen (layers.Expr-F.Atom a) (layers.Expr-F.Atom b) = same_atom C seen a b
expr_like C seen (layers.Expr-F.Sum fs) (layers.Expr-F.Sum xs) = all_like fs xs
expr_like C seen (layers.Expr-F.Concat fs) (layers.Expr-F.Concat xs) = all_like fs xs
expr_like C seen (layers.Expr-F.Product fs) (layers.Expr-F.Product xs) = all_like fs xs
expr_like C seen (layers.Expr-F.Case fs f) (layers.Expr-F.Case xs x) = all_like fs xs && both_like f x
expr_like C seen (layers.Expr-F.Match g fs f) (layers.Expr-F.Match y xs x) = g.to y && (all_like fs xs && both_like f x)
expr_like C seen (layers.Expr-F.Aggregate a f) (layers.Expr-F.Aggregate b x) = same_aggregate a b && f.to x
expr_like C seen (layers.Expr-F.Substr f g h) (layers.Expr-F.Substr x y z) = f.to x && (g.to y && both_like h z)
expr_like C seen (layers.Expr-F.Apply a f) (layers.Expr-F.Apply b x) = same_function a b && f.to x
expr_like C seen (layers.Expr-F.Coalesce fs) (layers.Expr-F.Coalesce xs) = all_like fs xs
expr_like C seen _ _ = false

-- the same form, and the parts the same; no subquery
abbrev pub cond_like : Layer liking layers.Cond-F → Written layers.Cond-F → Bool
cond_like (layers.Cond-F.Or fs) (layers.Cond-F.Or xs) = all_like fs xs
cond_like (layers.Cond-F.And fs) (layers.Cond-F.And xs) = all_like fs xs
cond_like (layers.Cond-F.Not f) (layers.Cond-F.Not x) = f.to x
cond_like (layers.Cond-F.Compare a f g) (layers.Cond-F.Compare b x y) = same_comparison a b && (f.to x && g.to y)
cond_like (layers.Cond-F.IsNull f) (layers.Cond-F.IsNull x) = f.to x
cond_like (layers.Cond-F.InList f fs) (layers.Cond-F.InList x xs) = f.to x && all_like fs xs
cond_like (layers.Cond-F.Between f g h) (layers.Cond-F.Between x y z) = f.to x && (g.to y && h.to z)
cond_like _ _ = false

-- each kind of node by its parts
abbrev pub like_steps : Catalogue → List Seen → Steps liking
like_steps C seen = record {
  cond = λ f. record { to = λ c. cond_like f (out-Cond c) };
  expr = λ f. record { to = λ e. expr_like C seen f (out-Expr e) };
  item = λ i. tt;
  join = λ j. tt;
  arm = λ f. record { to = λ x. f.when.to x.when && f.result.to x.result };
  chain = λ c. tt;
  choice = λ f. record { to = λ x. f.when.to x.when && f.result.to x.result };
  query = λ q. tt;
  signed = λ f. record { to = λ x. same_flag f.minus x.minus && f.part.to x.part };
}

-- both are the same expression where these items are in sight
unfoldable pub same : Catalogue → List Seen → Expr → Expr → Bool
same C seen e f = (expr_of liking (like_steps C seen) e).to f
