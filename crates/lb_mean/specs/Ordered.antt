-- DISTINCT, ORDER BY and FETCH of a query statement, on unmasked values.
use Rattle.std.specs.Prelude.{ℕ, ◌-◌, Bool, if◌then◌else◌, List, [], ◌∷◌, map, take, find, Option, Some, None, slice_index_or, Ok, ℤ, pos}
use Rattle.std.specs.List.{list_any, flat_map}
use Rattle.std.specs.Str.{bytes_eq}
use Rattle.std.specs.declared.cmp.Ordering.{Ordering}
use Rattle.std.specs.declared.cmp.Ordering.TheVariants.{Equal}
use Rattle.std.specs.Ordering.{ordering_then, ordering_reverse, is_lt}
use Rattle.lb_base.specs.Compare.{order_of}
use Rattle.lb_base.specs.Conditions.{is_same_row}
use Rattle.lb_base.specs.declared.value.Value.{Value}
use Rattle.lb_base.specs.declared.value.Value.TheVariants as values
use Rattle.lb_base.specs.Evaluated.{Evaluated, ◌>>=◌, each}
use Rattle.lb_tree.specs.declared.query.Atom.TheVariants as atoms
use Rattle.lb_tree.specs.declared.query.Cond.TheOpen as layers
use Rattle.lb_tree.specs.declared.query.Cond.TheViews.{out-Expr}
use Rattle.lb_tree.specs.declared.query.Direction.{Direction}
use Rattle.lb_tree.specs.declared.query.Direction.TheVariants.{Ascending, Descending}
use Rattle.lb_tree.specs.declared.query.SortKey.{SortKey}
use Rattle.lb_tree.specs.declared.query.Select.{Select}
use Rattle.lb_tree.specs.Folds.{Written}
use Rattle.lb_mean.specs.Setting.{Setting, Env, Frame}
use Rattle.lb_mean.specs.Meant.{Means, Shows, Answers}
use Rattle.lb_names.specs.Sure.{if_any}
use Rattle.lb_mean.specs.Conditions.{outputs}
use Rattle.lb_mean.specs.Meaning.{means, answers}

-- a row or group with the values that it is chosen or sorted by
pub record Ranked : Type 0 where
  pub by : List Value
  pub frame : Frame

-- ---- DISTINCT

-- a row or group with its outputs
abbrev pub with_outputs : List Shows → Frame → Evaluated Ranked
with_outputs items f = outputs items (f ∷ []) >>= λ row. Ok (record { by = row; frame = f })

-- the first of those with equal outputs, beside the outputs already seen
abbrev pub first_ones : List (List Value) → List Ranked → List Frame
first_ones seen [] = []
first_ones seen (x ∷ xs) = if list_any (is_same_row x.by) seen then first_ones seen xs else x.frame ∷ first_ones (x.by ∷ seen) xs

-- the rows or groups that DISTINCT leaves, once the outputs of all are known
abbrev pub different : Answers → List Frame → Evaluated (List Frame)
different q frames = if q.distinct then (each (map (with_outputs q.items) frames) >>= λ xs. Ok (first_ones [] xs)) else Ok frames

-- ---- ORDER BY

-- what a sort key stands for: an item by its output name, an output by its number from 1, or the value of its expression
pub data Sorts : Type 0 where
  by_name : List ℕ → Sorts
  by_number : ℕ → Sorts
  by_value : Sorts

-- a bare name may be an output name
abbrev pub sorts_by_column : Option (List ℕ) → List ℕ → Sorts
sorts_by_column None n = by_name n
sorts_by_column (Some correlation) n = by_value

-- a sort key stands for an item only where it is, whole, a bare name or an integer literal
abbrev pub sorts_by : Written layers.Expr-F → Sorts
sorts_by (layers.Expr-F.Atom (atoms.Column c)) = sorts_by_column c.correlation c.name
sorts_by (layers.Expr-F.Atom (atoms.Int (pos k))) = by_number k
sorts_by _ = by_value

-- the first item with that output name
abbrev pub item_named : List ℕ → List Shows → Option Shows
item_named n items = find (λ item. if_any (λ m. bytes_eq m n) item.name) items

-- the one value of an item with an output name
abbrev pub value_shown : List (Evaluated Value) → Evaluated Value
value_shown [] = Ok values.Null
value_shown (x ∷ xs) = x

-- the value of the item, or else of the expression
abbrev pub item_or : Option Shows → Means → Env → Evaluated Value
item_or None m env = m.value env
item_or (Some item) m env = value_shown (item.values env)

-- the value that a key stands for; `*` counts as one item for each column, and a number beyond the items is refused before
abbrev pub sort_value : List Shows → Sorts → Means → Env → Evaluated Value
sort_value items (by_name n) m env = item_or (item_named n items) m env
sort_value items (by_number k) m env = slice_index_or (flat_map (λ item. item.values env) items) (k - 1) (Ok values.Null)
sort_value items by_value m env = m.value env

-- a sort key: what it stands for, what its expression means, and its direction
pub record Sorter : Type 0 where
  pub by : Sorts
  pub means : Means
  pub direction : Direction

-- the order of a key's values, turned round by DESC
abbrev pub directed : Direction → Ordering → Ordering
directed Ascending o = o
directed Descending o = ordering_reverse o

-- the order of two rows by their keys, the first one first; null is greatest
abbrev pub keys_order : List Sorter → List Value → List Value → Ordering
keys_order (k ∷ ks) (x ∷ xs) (y ∷ ys) = ordering_then (directed k.direction (order_of x y)) (keys_order ks xs ys)
keys_order _ _ _ = Equal

-- x in front of the first of these that isn't less than x
abbrev pub insert : {A : Type 0} → (A → A → Bool) → A → List A → List A
insert less x [] = x ∷ []
insert less x (y ∷ ys) = if less y x then y ∷ insert less x ys else x ∷ y ∷ ys

-- a stable sort: in order, and ties stand as they stood
abbrev pub sorted : {A : Type 0} → (A → A → Bool) → List A → List A
sorted less [] = []
sorted less (x ∷ xs) = insert less x (sorted less xs)

-- a row or group with the values of its sort keys
abbrev pub with_keys : List Shows → List Sorter → Frame → Evaluated Ranked
with_keys items ks f = each (map (λ k. sort_value items k.by k.means (f ∷ [])) ks) >>= λ keys. Ok (record { by = keys; frame = f })

-- the first stands before the second by ORDER BY
abbrev pub comes_before : List Sorter → Ranked → Ranked → Bool
comes_before ks x y = is_lt (keys_order ks x.by y.by)

-- the rows or groups in the order of ORDER BY, once the keys of all are known
abbrev pub in_order : List Shows → List Sorter → List Frame → Evaluated (List Frame)
in_order items ks frames = each (map (with_keys items ks) frames) >>= λ xs. Ok (map (λ x. x.frame) (sorted (comes_before ks) xs))

-- ---- FETCH

-- the first ones, where FETCH says how many
abbrev pub cut : {A : Type 0} → Option ℤ → List A → List A
cut (Some (pos n)) xs = take n xs
cut _ xs = xs

-- ---- all three

-- the rows or groups whose outputs are the answer
abbrev pub chosen : Answers → List Sorter → Option ℤ → Evaluated (List Frame)
chosen q ks fetch = do
  frames ← q.frames (list_any (λ k. k.means.total) ks) []
  ones ← different q frames
  rows ← in_order q.items ks ones
  Ok (cut fetch rows)

-- what a key of ORDER BY sorts by
abbrev pub sorter : Setting → SortKey → Sorter
sorter S k = record { by = sorts_by (out-Expr k.by); means = means S k.by; direction = k.direction }

-- the rows or groups whose outputs a query statement answers
abbrev pub chosen_by : Setting → Select → Evaluated (List Frame)
chosen_by S s = chosen (answers S s.query) (map (sorter S) s.order) s.fetch
