-- The rows that a query statement answers: outputs with masks last, and labels as their texts.
use Rattle.std.specs.Prelude.{List, [], ◌∷◌, map, Option, Ok, ℤ}
use Rattle.std.specs.List.{flat_map}
use Rattle.lb_base.specs.declared.value.Value.{Value}
use Rattle.lb_base.specs.Evaluated.{Evaluated, ◌>>=◌, each}
use Rattle.lb_tree.specs.declared.query.Select.{Select}
use Rattle.lb_cat.specs.Catalog.{Policy}
use Rattle.lb_mean.specs.Setting.{Setting, Env, Frame, shown_frame}
use Rattle.lb_mean.specs.Labels.{text_told}
use Rattle.lb_mean.specs.Meant.{Shows, Answers}
use Rattle.lb_mean.specs.Meaning.{answers}
use Rattle.lb_mean.specs.Ordered.{Sorter, sorter, chosen}

-- each output of an item as a reply tells it, a label as its text by the output's policy; a row has a value for each column of its table, so there are as many policies as values
abbrev pub all_told : List (Option Policy) → List (Evaluated Value) → List (Evaluated Value)
all_told (p ∷ ps) (x ∷ xs) = (x >>= λ v. Ok (text_told p v)) ∷ all_told ps xs
all_told _ _ = []

-- the outputs of an item
abbrev pub item_told : Env → Shows → List (Evaluated Value)
item_told env item = all_told (item.policies env) (item.values env)

-- the outputs of a row or group, from left to right
abbrev pub row_told : List Shows → Frame → Evaluated (List Value)
row_told items f = each (flat_map (item_told (f ∷ [])) items)

-- the outputs of the rows or groups that are chosen, with what is shown of their columns in the columns' places
abbrev pub rows_of_query : Answers → List Sorter → Option ℤ → Evaluated (List (List Value))
rows_of_query q ks fetch = chosen q ks fetch >>= λ frames. each (map (λ f. row_told q.items (shown_frame f)) frames)

-- the rows of the reply, or the first fault
abbrev pub rows_told : Setting → Select → Evaluated (List (List Value))
rows_told S s = rows_of_query (answers S s.query) (map (sorter S) s.order) s.fetch
