-- The outputs of a select list, and the joins of FROM.
use Rattle.std.specs.Prelude.{ℕ, ◌+◌, Bool, true, false, not, ◌&&◌, ◌||◌, List, [], ◌∷◌, ◌++◌, map, length, drop, Option, Some, None, Ok}
use Rattle.std.specs.List.{list_any, filter, flat_map}
use Rattle.std.specs.Str.{bytes_eq}
use Rattle.lb_tree.specs.declared.query.Tab.{Tab}
use Rattle.lb_tree.specs.declared.query.Cond.TheOpen as layers
use Rattle.lb_tree.specs.Folds.{Layer}
use Rattle.lb_names.specs.declared.place.Seen.{Seen}
use Rattle.lb_names.specs.Sights.{Name, correlation}
use Rattle.lb_names.specs.Marks.{marks_in_item, marks_in_join}
use Rattle.lb_names.specs.Kinds.{Kind, is_label, takes}
use Rattle.lb_names.specs.Scopes.{Catalogue, columns_of}
use Rattle.lb_names.specs.Typed.{Typed, next, ◌>>=◌, only_if}
use Rattle.lb_names.specs.Places.{Place, on_place, all_free}
use Rattle.lb_names.specs.Carriers.{Wanted, Shows, Joins, Chains, typing, typing_marks}

-- ---- outputs

-- the kinds of the columns of an item
abbrev pub kinds_of_item : Catalogue → Seen → List Kind
kinds_of_item C s = map (λ f. f.kind) (columns_of C s.tab)

-- the kinds of all columns of these items
abbrev pub column_kinds : Catalogue → List Seen → List Kind
column_kinds C items = flat_map (kinds_of_item C) items

-- each column takes its output
abbrev pub each_takes : List Kind → List Kind → Bool
each_takes ws [] = true
each_takes [] (k ∷ ks) = false
each_takes (w ∷ ws) (k ∷ ks) = takes w k && each_takes ws ks

-- each output is taken, where columns take them
abbrev pub taken : Option (List Kind) → List Kind → Bool
taken None ks = true
taken (Some ws) ks = each_takes ws ks

-- these outputs may stand there: no label under DISTINCT, and each is taken by its column
abbrev pub fit : Wanted → List Kind → Bool
fit W ks = not (W.distinct && list_any is_label ks) && taken W.kinds ks

-- `*` or `x.*` for these items: in a stored condition it is no output of IN or of a comparison, and doesn't stand beside GROUP BY
abbrev pub star_fits : Catalogue → List Seen → Wanted → Place → Bool
star_fits C items W P = not (P.stored && (W.one || W.grouped)) && (all_free P C items && fit W (column_kinds C items))

-- the outputs of a `*`, which is one node
abbrev pub star_outputs : Catalogue → List Seen → Wanted → Place → ℕ → Typed (List Kind)
star_outputs C items W P at = only_if (star_fits C items W P) at (column_kinds C items, next at)

-- the items with that correlation name
abbrev pub called : Name → List Seen → List Seen
called x items = filter (λ s. bytes_eq (correlation s.tab) x) items

-- an item, by its parts
abbrev pub item_step : Catalogue → Layer typing layers.Item-F → Shows
item_step C layers.Item-F.Everything = record {
  marks = marks_in_item typing typing_marks layers.Item-F.Everything;
  outputs = λ W P at. star_outputs C P.sight.own W P at;
  width = λ own. length (column_kinds C own);
  total = false;
}
item_step C (layers.Item-F.AllOf x) = record {
  marks = marks_in_item typing typing_marks (layers.Item-F.AllOf x);
  outputs = λ W P at. star_outputs C (called x P.sight.own) W P at;
  width = λ own. length (column_kinds C (called x own));
  total = false;
}
item_step C (layers.Item-F.Value m name) = record {
  marks = marks_in_item typing typing_marks (layers.Item-F.Value m name);
  outputs = λ W P at. m.kind P at >>= λ x. only_if (fit W (x.0 ∷ [])) at (x.0 ∷ [], x.1);
  width = λ own. 1;
  total = m.total;
}

-- the number of outputs
abbrev pub widths : List Shows → List Seen → ℕ
widths [] own = 0
widths (i ∷ items) own = i.width own + widths items own

-- the columns that are still to take an output after so many
abbrev pub rest_of : Option (List Kind) → ℕ → Option (List Kind)
rest_of None n = None
rest_of (Some ws) n = Some (drop n ws)

-- the outputs so far, and those of these items, each for the columns that are still to take one
abbrev pub outputs_of : List Shows → List Kind → Wanted → Place → ℕ → Typed (List Kind)
outputs_of [] so_far W P n = Ok (so_far, n)
outputs_of (i ∷ items) so_far W P n = i.outputs W P n >>= λ x. outputs_of items (so_far ++ x.0) (record W { kinds = rest_of W.kinds (length x.0) }) P x.1

-- ---- FROM

-- an ON condition has no arithmetic and no subquery, or is broken itself
abbrev pub join_step : Layer typing layers.Join-F → Joins
join_step (layers.Join-F.Inner tab c) = record { marked = marks_in_join typing typing_marks (layers.Join-F.Inner tab c); typed = λ P at. c.typed P at >>= only_if c.sure at }
join_step (layers.Join-F.Left tab c) = record { marked = marks_in_join typing typing_marks (layers.Join-F.Left tab c); typed = λ P at. c.typed P at >>= only_if c.sure at }
join_step (layers.Join-F.Cross tab) = record { marked = marks_in_join typing typing_marks (layers.Join-F.Cross tab); typed = λ P at. Ok (tt, at) }

-- a chain, by its joins
abbrev pub chain_step : Layer typing layers.Chain-F → Chains
chain_step x = record { first = x.first; joins = x.joins }

-- the joins of a chain after these tables of it, in a query with these correlation names that stands there
abbrev pub joins_typed : Place → List Name → List Tab → List Joins → ℕ → Typed (Unit {0})
joins_typed P all tabs [] n = Ok (tt, n)
joins_typed P all tabs (j ∷ joins) n = j.typed (on_place P all (tabs ++ j.marked.tab ∷ [])) n >>= λ x. joins_typed P all (tabs ++ j.marked.tab ∷ []) joins x.1

-- all chains in text order
abbrev pub chains_typed : Place → List Name → List Chains → ℕ → Typed (Unit {0})
chains_typed P all [] n = Ok (tt, n)
chains_typed P all (ch ∷ chains) n = joins_typed P all (ch.first ∷ []) ch.joins n >>= λ x. chains_typed P all chains x.1
