-- Lemmas that the checks of typing want.
use Rattle.lb_types.proofs.Forms.{kind_atom, kind_sum, kind_concat, kind_product, kind_case, kind_match, kind_aggregate, kind_substr, kind_apply, kind_coalesce, typed_or, typed_and, typed_not, typed_exists, typed_compare, typed_comparequery, typed_isnull, typed_inquery, typed_inlist, typed_between}
use Rattle.lb_types.proofs.Outputs.{outputs_everything, outputs_allof, outputs_value, width_everything, width_allof, width_value, total_everything, total_allof, total_value, typed_inner, typed_left, typed_cross}
use Rattle.lb_types.proofs.Steps.{stops_then}

-- the nodes of a tree, one part after another
pub ruleset expressions = (stops_then, kind_atom, kind_sum, kind_concat, kind_product, kind_case, kind_match, kind_aggregate, kind_substr, kind_apply, kind_coalesce)

pub ruleset conditions = (stops_then, typed_or, typed_and, typed_not, typed_exists, typed_compare, typed_comparequery, typed_isnull, typed_inquery, typed_inlist, typed_between)

pub ruleset items = (stops_then, outputs_everything, outputs_allof, outputs_value)

pub ruleset joins = (stops_then, typed_inner, typed_left, typed_cross)

-- the number of an item's outputs, and whether it has an aggregate
pub ruleset widths = (width_everything, width_allof, width_value)

pub ruleset totals = (total_everything, total_allof, total_value)
