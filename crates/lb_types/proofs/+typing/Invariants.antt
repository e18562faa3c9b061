use Rattle.std.proofs.Common.{◌≡◌, ◌++◌, ◌∷◌, [], List, drop, map}
use Rattle.lb_names.specs.Kinds.{one, null, integer}
use Rattle.lb_names.specs.Parts as parts
use Rattle.lb_names.specs.SelectLists as lists
use Rattle.lb_names.specs.Sights.{Name}
use Rattle.lb_names.specs.Typing as trees
use Rattle.lb_scope.specs.Found.{catalogue, kind_in}
use Rattle.lb_types.specs.Given.{kinds_in, place_in}
use Rattle.lb_types.specs.Within.{common_in, wanted_in}
use Rattle.lb_walk.specs.Opened.{arm_of, chain_of, choice_of, part_of}
use Rattle.lb_types.proofs.+typing.Given as goal

abbrev pub invariant-exprs::kind_of_all-loop-expr : goal.invariant-exprs::kind_of_all-loop-expr
invariant-exprs::kind_of_all-loop-expr l = parts.kind_of_all (one (kind_in l.fn.first)) (map (trees.means (catalogue l.catalog)) l.exprs) (place_in (catalogue l.catalog) l.place) l.number ≡ parts.kind_of_all (common_in l.so_far) (map (trees.means (catalogue l.catalog)) (drop l.expr-index l.exprs)) (place_in (catalogue l.catalog) l.place) l.n

abbrev pub invariant-exprs::kind_of_parts-loop-part : goal.invariant-exprs::kind_of_parts-loop-part
invariant-exprs::kind_of_parts-loop-part l = parts.kind_of_all (one integer) (map (part_of (catalogue l.catalog)) l.parts) (place_in (catalogue l.catalog) l.place) l.number ≡ parts.kind_of_all (common_in l.so_far) (map (part_of (catalogue l.catalog)) (drop l.part-index l.parts)) (place_in (catalogue l.catalog) l.place) l.n

abbrev pub invariant-exprs::kind_of_arms-loop-arm : goal.invariant-exprs::kind_of_arms-loop-arm
invariant-exprs::kind_of_arms-loop-arm l = parts.kind_of_arms (one null) (map (arm_of (catalogue l.catalog)) l.arms) (place_in (catalogue l.catalog) l.place) l.number ≡ parts.kind_of_arms (common_in l.so_far) (map (arm_of (catalogue l.catalog)) (drop l.arm-index l.arms)) (place_in (catalogue l.catalog) l.place) l.n

abbrev pub invariant-exprs::kinds_of_choices-loop-choice : goal.invariant-exprs::kinds_of_choices-loop-choice
invariant-exprs::kinds_of_choices-loop-choice l = parts.kinds_of_choices (one (kind_in l.fn.first)) (one null) (map (choice_of (catalogue l.catalog)) l.choices) (place_in (catalogue l.catalog) l.place) l.number ≡ parts.kinds_of_choices (common_in l.operands) (common_in l.results) (map (choice_of (catalogue l.catalog)) (drop l.choice-index l.choices)) (place_in (catalogue l.catalog) l.place) l.n

abbrev pub invariant-conds::all_typed-loop-cond : goal.invariant-conds::all_typed-loop-cond
invariant-conds::all_typed-loop-cond l = parts.all_typed (map (trees.says (catalogue l.catalog)) l.conds) (place_in (catalogue l.catalog) l.place) l.number ≡ parts.all_typed (map (trees.says (catalogue l.catalog)) (drop l.cond-index l.conds)) (place_in (catalogue l.catalog) l.place) l.n

abbrev pub invariant-items::outputs_of-loop-item : goal.invariant-items::outputs_of-loop-item
invariant-items::outputs_of-loop-item l = lists.outputs_of (map (trees.shows (catalogue l.catalog)) l.items) [] (wanted_in l.wanted) (place_in (catalogue l.catalog) l.place) l.number ≡ lists.outputs_of (map (trees.shows (catalogue l.catalog)) (drop l.item-index l.items)) (kinds_in l.outputs) (wanted_in l.to_come) (place_in (catalogue l.catalog) l.place) l.n

abbrev pub invariant-queries::chains_typed-loop-chain : goal.invariant-queries::chains_typed-loop-chain
invariant-queries::chains_typed-loop-chain l = (all : List Name) → l.query.around ≡ all ++ l.place.sight.now.around → lists.chains_typed (place_in (catalogue l.catalog) l.place) all (map (chain_of (catalogue l.catalog)) l.chains) l.number ≡ lists.chains_typed (place_in (catalogue l.catalog) l.place) all (map (chain_of (catalogue l.catalog)) (drop l.chain-index l.chains)) l.n

abbrev pub invariant-queries::joins_typed-loop-join : goal.invariant-queries::joins_typed-loop-join
invariant-queries::joins_typed-loop-join l = (all : List Name) → l.query.around ≡ all ++ l.place.sight.now.around → lists.joins_typed (place_in (catalogue l.catalog) l.place) all (l.chain.first ∷ []) (map (trees.joins (catalogue l.catalog)) l.chain.joins) l.number ≡ lists.joins_typed (place_in (catalogue l.catalog) l.place) all l.tabs (map (trees.joins (catalogue l.catalog)) (drop l.join-index l.chain.joins)) l.n
