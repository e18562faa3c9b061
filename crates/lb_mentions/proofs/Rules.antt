-- Lemmas that the search wants.
use Rattle.lb_mentions.proofs.Nodes.{is_or, is_and, is_not, is_exists, is_compare, is_compare_query, is_null, is_in_query, is_in_list, is_between, is_atom, is_sum, is_concat, is_product, is_coalesce, is_case, is_match, is_aggregate, is_apply, is_substr, is_arm, is_choice, is_signed, is_everything, is_all_of, is_value, is_inner, is_left, is_cross, is_chain, is_query}

-- the nodes of a tree
pub ruleset conditions = (is_or, is_and, is_not, is_exists, is_compare, is_compare_query, is_null, is_in_query, is_in_list, is_between)

pub ruleset expressions = (is_atom, is_sum, is_concat, is_product, is_coalesce, is_case, is_match, is_aggregate, is_apply, is_substr)

pub ruleset nodes = (is_arm, is_choice, is_signed, is_everything, is_all_of, is_value, is_inner, is_left, is_cross, is_chain)

pub ruleset queries = (is_query)
