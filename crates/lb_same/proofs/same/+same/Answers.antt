use Rattle.std.proofs.Common.{refl, sym, ◌∙◌}
use Rattle.lb_scope.specs.Found.{catalogue}
use Rattle.lb_same.proofs.Pairs as pairs
use Rattle.lb_same.proofs.same.+same.Goals as goal

pub is_same-returns-in-Atom-other : goal.is_same-returns-in-Atom-other
is_same-returns-in-Atom-other t c = c.is_same_atom.ensures ∙ sym (pairs.same_atom_parts (catalogue c.args.catalog.now) c.args.seen.now c.args.one.now c.args.other.now c.in-Atom.atom c.in-Atom-other.another c.in-Atom.is c.in-Atom-other.is)

pub is_same-returns-in-Sum-other : goal.is_same-returns-in-Sum-other
is_same-returns-in-Sum-other t c = c.are_same_parts.ensures ∙ sym (pairs.same_sum_parts (catalogue c.args.catalog.now) c.args.seen.now c.args.one.now c.args.other.now c.in-Sum.parts c.as_slice.result.now c.in-Sum-other.others c.as_slice-in-Sum-other.result.now c.in-Sum.is c.in-Sum-other.is c.as_slice.ensures c.as_slice-in-Sum-other.ensures)

pub is_same-returns-in-Concat-other : goal.is_same-returns-in-Concat-other
is_same-returns-in-Concat-other t c = c.are_same_exprs.ensures ∙ sym (pairs.same_concat_parts (catalogue c.args.catalog.now) c.args.seen.now c.args.one.now c.args.other.now c.in-Concat.parts c.as_slice-in-Concat-other.result.now c.in-Concat-other.others c.as_slice-in-Concat-other-2.result.now c.in-Concat.is c.in-Concat-other.is c.as_slice-in-Concat-other.ensures c.as_slice-in-Concat-other-2.ensures)

pub is_same-returns-in-Product-other : goal.is_same-returns-in-Product-other
is_same-returns-in-Product-other t c = c.are_same_exprs-in-Product-other.ensures ∙ sym (pairs.same_product_parts (catalogue c.args.catalog.now) c.args.seen.now c.args.one.now c.args.other.now c.in-Product.parts c.as_slice-in-Product-other.result.now c.in-Product-other.others c.as_slice-in-Product-other-2.result.now c.in-Product.is c.in-Product-other.is c.as_slice-in-Product-other.ensures c.as_slice-in-Product-other-2.ensures)

pub is_same-returns-in-Coalesce-other : goal.is_same-returns-in-Coalesce-other
is_same-returns-in-Coalesce-other t c = c.are_same_exprs-in-Coalesce-other.ensures ∙ sym (pairs.same_coalesce_parts (catalogue c.args.catalog.now) c.args.seen.now c.args.one.now c.args.other.now c.in-Coalesce.parts c.as_slice-in-Coalesce-other.result.now c.in-Coalesce-other.others c.as_slice-in-Coalesce-other-2.result.now c.in-Coalesce.is c.in-Coalesce-other.is c.as_slice-in-Coalesce-other.ensures c.as_slice-in-Coalesce-other-2.ensures)

pub is_same-returns-then-are_same_arms : goal.is_same-returns-then-are_same_arms
is_same-returns-then-are_same_arms t c = pairs.and_then _ _ _ _ (pairs.same_case_parts (catalogue c.args.catalog.now) c.args.seen.now c.args.one.now c.args.other.now c.in-Case.arms c.as_slice-in-Case-other.result.now c.in-Case-other.others c.as_slice-in-Case-other-2.result.now c.in-Case.otherwise c.in-Case-other.its_otherwise c.in-Case.is c.in-Case-other.is c.as_slice-in-Case-other.ensures c.as_slice-in-Case-other-2.ensures) (sym c.are_same_arms.ensures ∙ c.if-are_same_arms.true) c.are_same_options.ensures

pub is_same-returns-else-are_same_arms : goal.is_same-returns-else-are_same_arms
is_same-returns-else-are_same_arms t c = pairs.and_else _ _ _ _ (pairs.same_case_parts (catalogue c.args.catalog.now) c.args.seen.now c.args.one.now c.args.other.now c.in-Case.arms c.as_slice-in-Case-other.result.now c.in-Case-other.others c.as_slice-in-Case-other-2.result.now c.in-Case.otherwise c.in-Case-other.its_otherwise c.in-Case.is c.in-Case-other.is c.as_slice-in-Case-other.ensures c.as_slice-in-Case-other-2.ensures) (sym c.are_same_arms.ensures ∙ c.if-are_same_arms.false) c.if-are_same_arms.false

pub is_same-returns-then-are_same_choices : goal.is_same-returns-then-are_same_choices
is_same-returns-then-are_same_choices t c = pairs.and_third _ _ _ _ _ (pairs.same_match_parts (catalogue c.args.catalog.now) c.args.seen.now c.args.one.now c.args.other.now c.in-Match.operand c.get.result.now c.in-Match-other.another c.get-in-Match-other.result.now c.in-Match.choices c.as_slice-then-is_same.result.now c.in-Match-other.others c.as_slice-then-is_same-2.result.now c.in-Match.otherwise c.in-Match-other.its_otherwise c.in-Match.is c.in-Match-other.is c.get.ensures c.get-in-Match-other.ensures c.as_slice-then-is_same.ensures c.as_slice-then-is_same-2.ensures) (sym c.is_same.ensures ∙ c.if-is_same.true) (sym c.are_same_choices.ensures ∙ c.if-are_same_choices.true) c.are_same_options-then-are_same_choices.ensures

pub is_same-returns-else-are_same_choices : goal.is_same-returns-else-are_same_choices
is_same-returns-else-are_same_choices t c = pairs.and_second _ _ _ _ _ (pairs.same_match_parts (catalogue c.args.catalog.now) c.args.seen.now c.args.one.now c.args.other.now c.in-Match.operand c.get.result.now c.in-Match-other.another c.get-in-Match-other.result.now c.in-Match.choices c.as_slice-then-is_same.result.now c.in-Match-other.others c.as_slice-then-is_same-2.result.now c.in-Match.otherwise c.in-Match-other.its_otherwise c.in-Match.is c.in-Match-other.is c.get.ensures c.get-in-Match-other.ensures c.as_slice-then-is_same.ensures c.as_slice-then-is_same-2.ensures) (sym c.is_same.ensures ∙ c.if-is_same.true) (sym c.are_same_choices.ensures ∙ c.if-are_same_choices.false) c.if-are_same_choices.false

pub is_same-returns-else-is_same : goal.is_same-returns-else-is_same
is_same-returns-else-is_same t c = pairs.and_else _ _ _ _ (pairs.same_match_parts (catalogue c.args.catalog.now) c.args.seen.now c.args.one.now c.args.other.now c.in-Match.operand c.get.result.now c.in-Match-other.another c.get-in-Match-other.result.now c.in-Match.choices c.in-Match.choices c.in-Match-other.others c.in-Match-other.others c.in-Match.otherwise c.in-Match-other.its_otherwise c.in-Match.is c.in-Match-other.is c.get.ensures c.get-in-Match-other.ensures refl refl) (sym c.is_same.ensures ∙ c.if-is_same.false) refl

pub is_same-returns-then-is_same_aggregate : goal.is_same-returns-then-is_same_aggregate
is_same-returns-then-is_same_aggregate t c = pairs.and_then _ _ _ _ (pairs.same_aggregate_parts (catalogue c.args.catalog.now) c.args.seen.now c.args.one.now c.args.other.now c.in-Aggregate.aggregate c.in-Aggregate-other.another c.in-Aggregate.of c.get-then-is_same_aggregate.result.now c.in-Aggregate-other.other_of c.get-then-is_same_aggregate-2.result.now c.in-Aggregate.is c.in-Aggregate-other.is c.get-then-is_same_aggregate.ensures c.get-then-is_same_aggregate-2.ensures) (sym c.is_same_aggregate.ensures ∙ c.if-is_same_aggregate.true) c.is_same-then-is_same_aggregate.ensures

pub is_same-returns-else-is_same_aggregate : goal.is_same-returns-else-is_same_aggregate
is_same-returns-else-is_same_aggregate t c = pairs.and_else _ _ _ _ (pairs.same_aggregate_parts (catalogue c.args.catalog.now) c.args.seen.now c.args.one.now c.args.other.now c.in-Aggregate.aggregate c.in-Aggregate-other.another c.in-Aggregate.of c.in-Aggregate.of c.in-Aggregate-other.other_of c.in-Aggregate-other.other_of c.in-Aggregate.is c.in-Aggregate-other.is refl refl) (sym c.is_same_aggregate.ensures ∙ c.if-is_same_aggregate.false) c.if-is_same_aggregate.false

pub is_same-returns-then-is_same_function : goal.is_same-returns-then-is_same_function
is_same-returns-then-is_same_function t c = pairs.and_then _ _ _ _ (pairs.same_apply_parts (catalogue c.args.catalog.now) c.args.seen.now c.args.one.now c.args.other.now c.in-Apply.function c.in-Apply-other.another c.in-Apply.to c.get-then-is_same_function.result.now c.in-Apply-other.other_to c.get-then-is_same_function-2.result.now c.in-Apply.is c.in-Apply-other.is c.get-then-is_same_function.ensures c.get-then-is_same_function-2.ensures) (sym c.is_same_function.ensures ∙ c.if-is_same_function.true) c.is_same-then-is_same_function.ensures

pub is_same-returns-else-is_same_function : goal.is_same-returns-else-is_same_function
is_same-returns-else-is_same_function t c = pairs.and_else _ _ _ _ (pairs.same_apply_parts (catalogue c.args.catalog.now) c.args.seen.now c.args.one.now c.args.other.now c.in-Apply.function c.in-Apply-other.another c.in-Apply.to c.in-Apply.to c.in-Apply-other.other_to c.in-Apply-other.other_to c.in-Apply.is c.in-Apply-other.is refl refl) (sym c.is_same_function.ensures ∙ c.if-is_same_function.false) c.if-is_same_function.false

pub is_same-returns-then-is_same-3 : goal.is_same-returns-then-is_same-3
is_same-returns-then-is_same-3 t c = pairs.and_third _ _ _ _ _ (pairs.same_substr_parts (catalogue c.args.catalog.now) c.args.seen.now c.args.one.now c.args.other.now c.in-Substr.text c.get-in-Substr-other.result.now c.in-Substr-other.another c.get-in-Substr-other-2.result.now c.in-Substr.from c.get-then-is_same-2.result.now c.in-Substr-other.other_from c.get-then-is_same-2-2.result.now c.in-Substr.length c.in-Substr-other.other_length c.in-Substr.is c.in-Substr-other.is c.get-in-Substr-other.ensures c.get-in-Substr-other-2.ensures c.get-then-is_same-2.ensures c.get-then-is_same-2-2.ensures) (sym c.is_same-in-Substr-other.ensures ∙ c.if-is_same-2.true) (sym c.is_same-then-is_same-2.ensures ∙ c.if-is_same-3.true) c.are_same_options-then-is_same-3.ensures

pub is_same-returns-else-is_same-3 : goal.is_same-returns-else-is_same-3
is_same-returns-else-is_same-3 t c = pairs.and_second _ _ _ _ _ (pairs.same_substr_parts (catalogue c.args.catalog.now) c.args.seen.now c.args.one.now c.args.other.now c.in-Substr.text c.get-in-Substr-other.result.now c.in-Substr-other.another c.get-in-Substr-other-2.result.now c.in-Substr.from c.get-then-is_same-2.result.now c.in-Substr-other.other_from c.get-then-is_same-2-2.result.now c.in-Substr.length c.in-Substr-other.other_length c.in-Substr.is c.in-Substr-other.is c.get-in-Substr-other.ensures c.get-in-Substr-other-2.ensures c.get-then-is_same-2.ensures c.get-then-is_same-2-2.ensures) (sym c.is_same-in-Substr-other.ensures ∙ c.if-is_same-2.true) (sym c.is_same-then-is_same-2.ensures ∙ c.if-is_same-3.false) c.if-is_same-3.false

pub is_same-returns-else-is_same-2 : goal.is_same-returns-else-is_same-2
is_same-returns-else-is_same-2 t c = pairs.and_else _ _ _ _ (pairs.same_substr_parts (catalogue c.args.catalog.now) c.args.seen.now c.args.one.now c.args.other.now c.in-Substr.text c.get-in-Substr-other.result.now c.in-Substr-other.another c.get-in-Substr-other-2.result.now c.in-Substr.from c.in-Substr.from c.in-Substr-other.other_from c.in-Substr-other.other_from c.in-Substr.length c.in-Substr-other.other_length c.in-Substr.is c.in-Substr-other.is c.get-in-Substr-other.ensures c.get-in-Substr-other-2.ensures refl refl) (sym c.is_same-in-Substr-other.ensures ∙ c.if-is_same-2.false) refl

pub is_same_cond-returns-in-Or-other : goal.is_same_cond-returns-in-Or-other
is_same_cond-returns-in-Or-other t c = c.are_same_conds.ensures ∙ sym (pairs.same_or_parts (catalogue c.args.catalog.now) c.args.seen.now c.args.one.now c.args.other.now c.in-Or.parts c.as_slice.result.now c.in-Or-other.others c.as_slice-in-Or-other.result.now c.in-Or.is c.in-Or-other.is c.as_slice.ensures c.as_slice-in-Or-other.ensures)

pub is_same_cond-returns-in-And-other : goal.is_same_cond-returns-in-And-other
is_same_cond-returns-in-And-other t c = c.are_same_conds-in-And-other.ensures ∙ sym (pairs.same_and_parts (catalogue c.args.catalog.now) c.args.seen.now c.args.one.now c.args.other.now c.in-And.parts c.as_slice-in-And-other.result.now c.in-And-other.others c.as_slice-in-And-other-2.result.now c.in-And.is c.in-And-other.is c.as_slice-in-And-other.ensures c.as_slice-in-And-other-2.ensures)

pub is_same_cond-returns-in-Not-other : goal.is_same_cond-returns-in-Not-other
is_same_cond-returns-in-Not-other t c = c.is_same_cond.ensures ∙ sym (pairs.same_not_parts (catalogue c.args.catalog.now) c.args.seen.now c.args.one.now c.args.other.now c.in-Not.part c.get.result.now c.in-Not-other.another c.get-in-Not-other.result.now c.in-Not.is c.in-Not-other.is c.get.ensures c.get-in-Not-other.ensures)

pub is_same_cond-returns-in-IsNull-other : goal.is_same_cond-returns-in-IsNull-other
is_same_cond-returns-in-IsNull-other t c = c.is_same-in-IsNull-other.ensures ∙ sym (pairs.same_isnull_parts (catalogue c.args.catalog.now) c.args.seen.now c.args.one.now c.args.other.now c.in-IsNull.part c.get-in-IsNull-other.result.now c.in-IsNull-other.another c.get-in-IsNull-other-2.result.now c.in-IsNull.is c.in-IsNull-other.is c.get-in-IsNull-other.ensures c.get-in-IsNull-other-2.ensures)

pub is_same_cond-returns-then-is_same : goal.is_same_cond-returns-then-is_same
is_same_cond-returns-then-is_same t c = pairs.and_third _ _ _ _ _ (pairs.same_compare_parts (catalogue c.args.catalog.now) c.args.seen.now c.args.one.now c.args.other.now c.in-Compare.by c.in-Compare-other.other_by c.in-Compare.left c.get-then-is_same_comparison.result.now c.in-Compare-other.other_left c.get-then-is_same_comparison-2.result.now c.in-Compare.right c.get-then-is_same.result.now c.in-Compare-other.other_right c.get-then-is_same-2.result.now c.in-Compare.is c.in-Compare-other.is c.get-then-is_same_comparison.ensures c.get-then-is_same_comparison-2.ensures c.get-then-is_same.ensures c.get-then-is_same-2.ensures) (sym c.is_same_comparison.ensures ∙ c.if-is_same_comparison.true) (sym c.is_same.ensures ∙ c.if-is_same.true) c.is_same-then-is_same.ensures

pub is_same_cond-returns-else-is_same : goal.is_same_cond-returns-else-is_same
is_same_cond-returns-else-is_same t c = pairs.and_second _ _ _ _ _ (pairs.same_compare_parts (catalogue c.args.catalog.now) c.args.seen.now c.args.one.now c.args.other.now c.in-Compare.by c.in-Compare-other.other_by c.in-Compare.left c.get-then-is_same_comparison.result.now c.in-Compare-other.other_left c.get-then-is_same_comparison-2.result.now c.in-Compare.right c.in-Compare.right c.in-Compare-other.other_right c.in-Compare-other.other_right c.in-Compare.is c.in-Compare-other.is c.get-then-is_same_comparison.ensures c.get-then-is_same_comparison-2.ensures refl refl) (sym c.is_same_comparison.ensures ∙ c.if-is_same_comparison.true) (sym c.is_same.ensures ∙ c.if-is_same.false) c.if-is_same.false

pub is_same_cond-returns-else-is_same_comparison : goal.is_same_cond-returns-else-is_same_comparison
is_same_cond-returns-else-is_same_comparison t c = pairs.and_else _ _ _ _ (pairs.same_compare_parts (catalogue c.args.catalog.now) c.args.seen.now c.args.one.now c.args.other.now c.in-Compare.by c.in-Compare-other.other_by c.in-Compare.left c.in-Compare.left c.in-Compare-other.other_left c.in-Compare-other.other_left c.in-Compare.right c.in-Compare.right c.in-Compare-other.other_right c.in-Compare-other.other_right c.in-Compare.is c.in-Compare-other.is refl refl refl refl) (sym c.is_same_comparison.ensures ∙ c.if-is_same_comparison.false) refl

pub is_same_cond-returns-then-is_same-2 : goal.is_same_cond-returns-then-is_same-2
is_same_cond-returns-then-is_same-2 t c = pairs.and_then _ _ _ _ (pairs.same_inlist_parts (catalogue c.args.catalog.now) c.args.seen.now c.args.one.now c.args.other.now c.in-InList.part c.get-in-InList-other.result.now c.in-InList-other.another c.get-in-InList-other-2.result.now c.in-InList.list c.as_slice-then-is_same-2.result.now c.in-InList-other.others c.as_slice-then-is_same-2-2.result.now c.in-InList.is c.in-InList-other.is c.get-in-InList-other.ensures c.get-in-InList-other-2.ensures c.as_slice-then-is_same-2.ensures c.as_slice-then-is_same-2-2.ensures) (sym c.is_same-in-InList-other.ensures ∙ c.if-is_same-2.true) c.are_same_exprs.ensures

pub is_same_cond-returns-else-is_same-2 : goal.is_same_cond-returns-else-is_same-2
is_same_cond-returns-else-is_same-2 t c = pairs.and_else _ _ _ _ (pairs.same_inlist_parts (catalogue c.args.catalog.now) c.args.seen.now c.args.one.now c.args.other.now c.in-InList.part c.get-in-InList-other.result.now c.in-InList-other.another c.get-in-InList-other-2.result.now c.in-InList.list c.in-InList.list c.in-InList-other.others c.in-InList-other.others c.in-InList.is c.in-InList-other.is c.get-in-InList-other.ensures c.get-in-InList-other-2.ensures refl refl) (sym c.is_same-in-InList-other.ensures ∙ c.if-is_same-2.false) c.if-is_same-2.false

pub is_same_cond-returns-then-is_same-4 : goal.is_same_cond-returns-then-is_same-4
is_same_cond-returns-then-is_same-4 t c = pairs.and_third _ _ _ _ _ (pairs.same_between_parts (catalogue c.args.catalog.now) c.args.seen.now c.args.one.now c.args.other.now c.in-Between.part c.get-in-Between-other.result.now c.in-Between-other.another c.get-in-Between-other-2.result.now c.in-Between.low c.get-then-is_same-3.result.now c.in-Between-other.other_low c.get-then-is_same-3-2.result.now c.in-Between.high c.get-then-is_same-4.result.now c.in-Between-other.other_high c.get-then-is_same-4-2.result.now c.in-Between.is c.in-Between-other.is c.get-in-Between-other.ensures c.get-in-Between-other-2.ensures c.get-then-is_same-3.ensures c.get-then-is_same-3-2.ensures c.get-then-is_same-4.ensures c.get-then-is_same-4-2.ensures) (sym c.is_same-in-Between-other.ensures ∙ c.if-is_same-3.true) (sym c.is_same-then-is_same-3.ensures ∙ c.if-is_same-4.true) c.is_same-then-is_same-4.ensures

pub is_same_cond-returns-else-is_same-4 : goal.is_same_cond-returns-else-is_same-4
is_same_cond-returns-else-is_same-4 t c = pairs.and_second _ _ _ _ _ (pairs.same_between_parts (catalogue c.args.catalog.now) c.args.seen.now c.args.one.now c.args.other.now c.in-Between.part c.get-in-Between-other.result.now c.in-Between-other.another c.get-in-Between-other-2.result.now c.in-Between.low c.get-then-is_same-3.result.now c.in-Between-other.other_low c.get-then-is_same-3-2.result.now c.in-Between.high c.in-Between.high c.in-Between-other.other_high c.in-Between-other.other_high c.in-Between.is c.in-Between-other.is c.get-in-Between-other.ensures c.get-in-Between-other-2.ensures c.get-then-is_same-3.ensures c.get-then-is_same-3-2.ensures refl refl) (sym c.is_same-in-Between-other.ensures ∙ c.if-is_same-3.true) (sym c.is_same-then-is_same-3.ensures ∙ c.if-is_same-4.false) c.if-is_same-4.false

pub is_same_cond-returns-else-is_same-3 : goal.is_same_cond-returns-else-is_same-3
is_same_cond-returns-else-is_same-3 t c = pairs.and_else _ _ _ _ (pairs.same_between_parts (catalogue c.args.catalog.now) c.args.seen.now c.args.one.now c.args.other.now c.in-Between.part c.get-in-Between-other.result.now c.in-Between-other.another c.get-in-Between-other-2.result.now c.in-Between.low c.in-Between.low c.in-Between-other.other_low c.in-Between-other.other_low c.in-Between.high c.in-Between.high c.in-Between-other.other_high c.in-Between-other.other_high c.in-Between.is c.in-Between-other.is c.get-in-Between-other.ensures c.get-in-Between-other-2.ensures refl refl refl refl) (sym c.is_same-in-Between-other.ensures ∙ c.if-is_same-3.false) refl
