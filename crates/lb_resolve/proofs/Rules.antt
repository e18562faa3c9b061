-- Lemmas that the checks of the passes want.
use Rattle.lb_resolve.proofs.Stopping.{stops_then, passes_then}
use Rattle.lb_resolve.proofs.Nodes.{is_or, is_and, is_not, is_exists, is_compare, is_compare_query, is_null, is_in_query, is_in_list, is_between, is_atom, is_sum, is_concat, is_product, is_coalesce, is_case, is_match, is_aggregate, is_apply, is_substr, is_arm, is_choice, is_signed, is_everything, is_all_of, is_value, on_inner, on_left, on_cross, is_query}

-- one part after another
pub ruleset passing = (stops_then, passes_then)

-- the nodes of a tree
pub ruleset conditions = (stops_then, passes_then, is_or, is_and, is_not, is_exists, is_compare, is_compare_query, is_null, is_in_query, is_in_list, is_between)

pub ruleset expressions = (stops_then, passes_then, is_atom, is_sum, is_concat, is_product, is_coalesce, is_case, is_match, is_aggregate, is_apply, is_substr)

pub ruleset nodes = (stops_then, passes_then, is_arm, is_choice, is_signed, is_everything, is_all_of, is_value, on_inner, on_left, on_cross)

pub ruleset queries = (stops_then, passes_then, is_query)
