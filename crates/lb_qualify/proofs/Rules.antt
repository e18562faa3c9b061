-- Lemmas that the checks of the copies want.
use Rattle.lb_qualify.proofs.Nodes.{or_form, and_form, not_form, exists_form, compare_form, compare_query_form, null_form, in_query_form, in_list_form, between_form, atom_form, sum_form, concat_form, product_form, coalesce_form, case_form, match_form, aggregate_form, substr_form, apply_form, everything_form, all_of_form, value_form, inner_form, left_form, cross_form, arm_form, choice_form, signed_form, chain_form, query_form}

-- the nodes of a tree
pub ruleset conditions = (or_form, and_form, not_form, exists_form, compare_form, compare_query_form, null_form, in_query_form, in_list_form, between_form)

pub ruleset expressions = (atom_form, sum_form, concat_form, product_form, coalesce_form, case_form, match_form, aggregate_form, substr_form, apply_form)

pub ruleset nodes = (everything_form, all_of_form, value_form, inner_form, left_form, cross_form, arm_form, choice_form, signed_form, chain_form)

pub ruleset queries = (query_form)
