use Rattle.lb_kinds.proofs.Conditions.{compares_one_kind, list_has_one_kind, bounds_have_one_kind, scalar_has_one_kind, rows_have_one_kind}
use Rattle.lb_kinds.proofs.laws.typed_conditions_compare_values_of_one_kind.Goals as goal

pub returns-clause-compared : goal.returns-clause-compared
returns-clause-compared c = compares_one_kind

pub returns-clause-list : goal.returns-clause-list
returns-clause-list c = list_has_one_kind

pub returns-clause-bounds : goal.returns-clause-bounds
returns-clause-bounds c = bounds_have_one_kind

pub returns-clause-scalar : goal.returns-clause-scalar
returns-clause-scalar c = scalar_has_one_kind

pub returns-clause-rows : goal.returns-clause-rows
returns-clause-rows c = rows_have_one_kind
