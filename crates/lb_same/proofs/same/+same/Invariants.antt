use Rattle.std.proofs.Common.{◌≡◌, drop, length, map}
use Rattle.lb_tree.specs.Folds.{arm_of, choice_of, cond_of, expr_of, signed_of}
use Rattle.lb_names.specs.Same.{all_like, like_steps, liking}
use Rattle.lb_scope.specs.Found.{catalogue}
use Rattle.lb_same.proofs.same.+same.Given as goal

abbrev pub invariant-are_same_exprs-loop-i : goal.invariant-are_same_exprs-loop-i
invariant-are_same_exprs-loop-i l = (length l.ones ≡ length l.others) × (all_like (map (expr_of liking (like_steps (catalogue l.catalog) l.seen)) l.ones) l.others ≡ all_like (map (expr_of liking (like_steps (catalogue l.catalog) l.seen)) (drop l.i l.ones)) (drop l.i l.others))

abbrev pub invariant-are_same_parts-loop-i : goal.invariant-are_same_parts-loop-i
invariant-are_same_parts-loop-i l = (length l.ones ≡ length l.others) × (all_like (map (signed_of liking (like_steps (catalogue l.catalog) l.seen)) l.ones) l.others ≡ all_like (map (signed_of liking (like_steps (catalogue l.catalog) l.seen)) (drop l.i l.ones)) (drop l.i l.others))

abbrev pub invariant-are_same_arms-loop-i : goal.invariant-are_same_arms-loop-i
invariant-are_same_arms-loop-i l = (length l.ones ≡ length l.others) × (all_like (map (arm_of liking (like_steps (catalogue l.catalog) l.seen)) l.ones) l.others ≡ all_like (map (arm_of liking (like_steps (catalogue l.catalog) l.seen)) (drop l.i l.ones)) (drop l.i l.others))

abbrev pub invariant-are_same_choices-loop-i : goal.invariant-are_same_choices-loop-i
invariant-are_same_choices-loop-i l = (length l.ones ≡ length l.others) × (all_like (map (choice_of liking (like_steps (catalogue l.catalog) l.seen)) l.ones) l.others ≡ all_like (map (choice_of liking (like_steps (catalogue l.catalog) l.seen)) (drop l.i l.ones)) (drop l.i l.others))

abbrev pub invariant-are_same_conds-loop-i : goal.invariant-are_same_conds-loop-i
invariant-are_same_conds-loop-i l = (length l.ones ≡ length l.others) × (all_like (map (cond_of liking (like_steps (catalogue l.catalog) l.seen)) l.ones) l.others ≡ all_like (map (cond_of liking (like_steps (catalogue l.catalog) l.seen)) (drop l.i l.ones)) (drop l.i l.others))
