use Rattle.std.proofs.Common.{◌≡◌, ◌++◌, ◌∷◌, [], List, drop, map}
use Rattle.lb_names.specs.Carriers.{chain_marked}
use Rattle.lb_names.specs.Marks as marks
use Rattle.lb_names.specs.Passes.{all_own}
use Rattle.lb_names.specs.Sights.{Name}
use Rattle.lb_names.specs.Typing as trees
use Rattle.lb_scope.specs.Found.{catalogue}
use Rattle.lb_walk.specs.Opened.{arm_of, chain_of, choice_of, own_chains, own_joins, part_of}
use Rattle.lb_walk.proofs.own.+own.Given as goal

abbrev pub invariant-exprs_own-loop-expr : goal.invariant-exprs_own-loop-expr
invariant-exprs_own-loop-expr l = all_own (catalogue l.catalog) l.level (marks.of_each (λ m. m.marks) (map (trees.means (catalogue l.catalog)) l.exprs) l.sight) ≡ all_own (catalogue l.catalog) l.level (marks.of_each (λ m. m.marks) (map (trees.means (catalogue l.catalog)) (drop l.expr-index l.exprs)) l.sight)

abbrev pub invariant-parts_own-loop-part : goal.invariant-parts_own-loop-part
invariant-parts_own-loop-part l = all_own (catalogue l.catalog) l.level (marks.of_each (λ m. m.marks) (map (part_of (catalogue l.catalog)) l.parts) l.sight) ≡ all_own (catalogue l.catalog) l.level (marks.of_each (λ m. m.marks) (map (part_of (catalogue l.catalog)) (drop l.part-index l.parts)) l.sight)

abbrev pub invariant-arms_own-loop-arm : goal.invariant-arms_own-loop-arm
invariant-arms_own-loop-arm l = all_own (catalogue l.catalog) l.level (marks.of_each (λ m. m.marks) (map (arm_of (catalogue l.catalog)) l.arms) l.sight) ≡ all_own (catalogue l.catalog) l.level (marks.of_each (λ m. m.marks) (map (arm_of (catalogue l.catalog)) (drop l.arm-index l.arms)) l.sight)

abbrev pub invariant-choices_own-loop-choice : goal.invariant-choices_own-loop-choice
invariant-choices_own-loop-choice l = all_own (catalogue l.catalog) l.level (marks.of_each (λ m. m.marks) (map (choice_of (catalogue l.catalog)) l.choices) l.sight) ≡ all_own (catalogue l.catalog) l.level (marks.of_each (λ m. m.marks) (map (choice_of (catalogue l.catalog)) (drop l.choice-index l.choices)) l.sight)

abbrev pub invariant-conds_own-loop-cond : goal.invariant-conds_own-loop-cond
invariant-conds_own-loop-cond l = all_own (catalogue l.catalog) l.level (marks.of_each (λ m. m.marks) (map (trees.says (catalogue l.catalog)) l.conds) l.sight) ≡ all_own (catalogue l.catalog) l.level (marks.of_each (λ m. m.marks) (map (trees.says (catalogue l.catalog)) (drop l.cond-index l.conds)) l.sight)

abbrev pub invariant-items_own-loop-item : goal.invariant-items_own-loop-item
invariant-items_own-loop-item l = all_own (catalogue l.catalog) l.level (marks.of_each (λ m. m.marks) (map (trees.shows (catalogue l.catalog)) l.items) l.sight) ≡ all_own (catalogue l.catalog) l.level (marks.of_each (λ m. m.marks) (map (trees.shows (catalogue l.catalog)) (drop l.item-index l.items)) l.sight)

abbrev pub invariant-chains_own-loop-chain : goal.invariant-chains_own-loop-chain
invariant-chains_own-loop-chain l = (all : List Name) → l.query.around ≡ all ++ l.outer.around → own_chains (catalogue l.catalog) l.level l.outer all (map chain_marked (map (chain_of (catalogue l.catalog)) l.chains)) ≡ own_chains (catalogue l.catalog) l.level l.outer all (map chain_marked (map (chain_of (catalogue l.catalog)) (drop l.chain-index l.chains)))

abbrev pub invariant-joins_own-loop-join : goal.invariant-joins_own-loop-join
invariant-joins_own-loop-join l = (all : List Name) → l.query.around ≡ all ++ l.outer.around → own_joins (catalogue l.catalog) l.level l.outer all (l.chain.first ∷ []) (map (λ j. j.marked) (map (trees.joins (catalogue l.catalog)) l.chain.joins)) ≡ own_joins (catalogue l.catalog) l.level l.outer all l.tabs (map (λ j. j.marked) (map (trees.joins (catalogue l.catalog)) (drop l.join-index l.chain.joins)))
