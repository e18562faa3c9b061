-- What a key of ORDER BY stands for: a whole bare name for the item with that output name, an integer for the output with that number.
use Rattle.std.specs.Prelude.{ℤ, if◌then◌else◌, List, [], ◌∷◌, Option, Some, None}
use Rattle.std.specs.Str.{bytes_eq}
use Rattle.lb_tree.specs.declared.query.Atom.TheVariants as atoms
use Rattle.lb_tree.specs.declared.query.Expr.{Expr}
use Rattle.lb_tree.specs.declared.query.Item.{Item}
use Rattle.lb_tree.specs.declared.query.Cond.TheOpen as layers
use Rattle.lb_tree.specs.declared.query.Cond.TheViews.{out-Expr, out-Item}
use Rattle.lb_tree.specs.Folds.{Written}
use Rattle.lb_names.specs.Sights.{Name}

-- the name of a column that is written without a correlation name
abbrev pub bare_column : Option Name → Name → Option Name
bare_column None n = Some n
bare_column (Some x) n = None

-- the name, where the expression is a bare name as a whole
abbrev pub bare_name : Written layers.Expr-F → Option Name
bare_name (layers.Expr-F.Atom (atoms.Column c)) = bare_column c.correlation c.name
bare_name e = None

-- the expression, where the item has that output name
abbrev pub if_named : Name → Written layers.Item-F → Option Expr
if_named n (layers.Item-F.Value e (Some m)) = if bytes_eq n m then Some e else None
if_named n i = None

-- the first that is there
abbrev pub or_else : {A : Type 0} → Option A → Option A → Option A
or_else (Some x) y = Some x
or_else None y = y

-- the expression of the first item with that output name
abbrev pub named : Name → List Item → Option Expr
named n [] = None
named n (i ∷ items) = or_else (if_named n (out-Item i)) (named n items)

-- the same for a key that may be no bare name
abbrev pub maybe_named : Option Name → List Item → Option Expr
maybe_named None items = None
maybe_named (Some n) items = named n items

-- the item's expression for which the key's name stands
abbrev pub meant : List Item → Expr → Option Expr
meant items e = maybe_named (bare_name (out-Expr e)) items

-- the integer, where the expression is a literal as a whole
abbrev pub position_in : Written layers.Expr-F → Option ℤ
position_in (layers.Expr-F.Atom (atoms.Int n)) = Some n
position_in e = None

-- the number of the output for which the key stands
abbrev pub position : Expr → Option ℤ
position e = position_in (out-Expr e)
