-- Lemmas that the checks of printing functions want.
use Rattle.lb_tok.proofs.Layouts.{laid-append}
use Rattle.lb_tok.proofs.Opens.{item_pieces-Everything, item_pieces-AllOf, item_pieces-Value, join_pieces-Inner, join_pieces-Left, join_pieces-Cross, arm_pieces-out, choice_pieces-out, chain_pieces-out, query_pieces-out}
use Rattle.lb_page.proofs.Nodes.{is_atom, is_sum, is_concat, is_product, is_case, is_match, is_aggregate, is_substr, is_apply, is_coalesce, rank_atom, rank_sum, rank_concat, rank_product, rank_case, rank_match, rank_aggregate, rank_substr, rank_apply, rank_coalesce, of_or, of_and, of_not, of_exists, of_compare, of_comparequery, of_isnull, of_inquery, of_inlist, of_between, cond_rank_or, cond_rank_and, cond_rank_not, cond_rank_exists, cond_rank_compare, cond_rank_comparequery, cond_rank_isnull, cond_rank_inquery, cond_rank_inlist, cond_rank_between}

-- pieces one after the other
pub ruleset laying = (laid-append)

-- what the nodes of a tree give
pub ruleset exprs = (laid-append, is_atom, is_sum, is_concat, is_product, is_case, is_match, is_aggregate, is_substr, is_apply, is_coalesce, rank_atom, rank_sum, rank_concat, rank_product, rank_case, rank_match, rank_aggregate, rank_substr, rank_apply, rank_coalesce, arm_pieces-out, choice_pieces-out)

pub ruleset conditions = (laid-append, of_or, of_and, of_not, of_exists, of_compare, of_comparequery, of_isnull, of_inquery, of_inlist, of_between, cond_rank_or, cond_rank_and, cond_rank_not, cond_rank_exists, cond_rank_compare, cond_rank_comparequery, cond_rank_isnull, cond_rank_inquery, cond_rank_inlist, cond_rank_between)

pub ruleset queries = (laid-append, item_pieces-Everything, item_pieces-AllOf, item_pieces-Value, join_pieces-Inner, join_pieces-Left, join_pieces-Cross, chain_pieces-out, query_pieces-out)
