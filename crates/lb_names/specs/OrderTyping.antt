-- The types of a query with its ORDER BY.
use Rattle.std.specs.Prelude.{ℕ, zero, suc, slice_get, ℤ, pos, negsuc, Bool, false, not, ◌&&◌, ◌||◌, ◌==◌, List, [], ◌∷◌, Option, Some, None, Ok, Err}
use Rattle.std.specs.List.{list_any}
use Rattle.lb_tree.specs.declared.query.Atom.TheVariants as atoms
use Rattle.lb_tree.specs.declared.query.Expr.{Expr}
use Rattle.lb_tree.specs.declared.query.Item.{Item}
use Rattle.lb_tree.specs.declared.query.SortKey.{SortKey}
use Rattle.lb_tree.specs.declared.query.Select.{Select}
use Rattle.lb_tree.specs.declared.query.Cond.TheOpen as layers
use Rattle.lb_tree.specs.declared.query.Cond.TheViews.{out-Expr, out-Item, out-Query}
use Rattle.lb_tree.specs.Folds.{Written}
use Rattle.lb_names.specs.Sights.{Name}
use Rattle.lb_names.specs.SortNames.{meant, position}
use Rattle.lb_names.specs.Kinds.{Kind, is_label}
use Rattle.lb_names.specs.Scopes.{Catalogue, Resolved, resolve}
use Rattle.lb_names.specs.Passes.{is_called}
use Rattle.lb_names.specs.Typed.{Typed, next, ◌>>=◌, only_if}
use Rattle.lb_names.specs.Places.{Place, outermost}
use Rattle.lb_names.specs.Carriers.{Role}
use Rattle.lb_names.specs.Typing.{means, answers}
use Rattle.lb_names.specs.Same.{same}

-- the output with that number, counted from 1
abbrev pub output_at : ℤ → List Kind → Option Kind
output_at (pos zero) ks = None
output_at (pos (suc n)) ks = slice_get ks n
output_at (negsuc n) ks = None

module _ (C : Catalogue) where
  -- ---- the expression of a key equals a select item

  -- it is a column of the query's own items, of those with that correlation name where one is given
  abbrev pub is_own_column : Place → Option Name → Resolved → Bool
  is_own_column P None (Ok x) = x.item.level == P.sight.level
  is_own_column P (Some n) (Ok x) = (x.item.level == P.sight.level) && is_called n (x.item ∷ [])
  is_own_column P x (Err n) = false

  -- the expression is a column among those of `*` or `x.*`
  abbrev pub is_in_star : Place → Option Name → Written layers.Expr-F → Bool
  is_in_star P x (layers.Expr-F.Atom (atoms.Column c)) = is_own_column P x (resolve C P.sight.seen c)
  is_in_star P x e = false

  -- the expression equals the select item
  abbrev pub is_item : Place → Expr → Written layers.Item-F → Bool
  is_item P e layers.Item-F.Everything = is_in_star P None (out-Expr e)
  is_item P e (layers.Item-F.AllOf x) = is_in_star P (Some x) (out-Expr e)
  is_item P e (layers.Item-F.Value f name) = same C P.sight.seen e f

  -- it equals some select item
  abbrev pub is_selected : Place → List Item → Expr → Bool
  is_selected P items e = list_any (λ i. is_item P e (out-Item i)) items

  -- ---- keys: none is a label

  -- an expression; with DISTINCT it equals a select item
  abbrev pub expression_key : Place → Bool → List Item → Expr → ℕ → Typed (Unit {0})
  expression_key P distinct items e at = (means C e).kind P at >>= λ x. only_if (not (is_label x.0) && (not distinct || is_selected P items e)) at (tt, x.1)

  -- a name or an integer that stands for an item is one node
  abbrev pub item_key : ℕ → Kind → Typed (Unit {0})
  item_key at k = only_if (not (is_label k)) at (tt, next at)

  -- an integer stands for an output that is there
  abbrev pub output_key : Option Kind → ℕ → Typed (Unit {0})
  output_key None at = Err at
  output_key (Some k) at = item_key at k

  -- a key that is no output name
  abbrev pub other_key : Place → Bool → List Item → List Kind → Expr → Option ℤ → ℕ → Typed (Unit {0})
  other_key P distinct items ks e None at = expression_key P distinct items e at
  other_key P distinct items ks e (Some n) at = output_key (output_at n ks) at

  -- a key; an output name has the kind of its item's expression
  abbrev pub key_typed : Place → Bool → List Item → List Kind → Expr → Option Expr → ℕ → Typed (Unit {0})
  key_typed P distinct items ks e None at = other_key P distinct items ks e (position e) at
  key_typed P distinct items ks e (Some f) at = (means C f).kind P at >>= λ x. item_key at x.0

  -- each key in its turn
  abbrev pub keys_typed : Place → Bool → List Item → List Kind → List SortKey → ℕ → Typed (Unit {0})
  keys_typed P distinct items ks [] n = Ok (tt, n)
  keys_typed P distinct items ks (key ∷ keys) n = key_typed P distinct items ks key.by (meant items key.by) n >>= λ x. keys_typed P distinct items ks keys x.1

  -- ---- the query, and then its keys

  -- a key has an aggregate
  abbrev pub is_total_key : SortKey → Bool
  is_total_key key = (means C key.by).total

  -- of a query whose outputs are taken by columns of these kinds, where there are such
  abbrev pub outermost_role : List SortKey → Option (List Kind) → Role
  outermost_role keys wanted = record { subquery = false; one = false; total = list_any is_total_key keys; wanted = wanted }

  -- where ORDER BY stands
  abbrev pub order_place : Select → Option (List Kind) → Place
  order_place s wanted = (answers C s.query).shown (outermost_role s.order wanted) outermost

  -- a query, then the keys of its ORDER BY
  abbrev pub select_typed : Select → Option (List Kind) → Typed (List Kind)
  select_typed s wanted = (answers C s.query).kinds (outermost_role s.order wanted) outermost 0 >>= λ ks.
      keys_typed (order_place s wanted) (out-Query s.query).distinct (out-Query s.query).items ks.0 s.order ks.1 >>= λ x. Ok (ks.0, x.1)
