use Rattle.lb_base.proofs.TotalOrder.{order_total, order_sortable}
use Rattle.lb_base.proofs.compare.values_stand_in_one_order.Goals as goal

pub returns-clause-total : goal.returns-clause-total
returns-clause-total c = order_total

pub returns-clause-sortable : goal.returns-clause-sortable
returns-clause-sortable c = order_sortable
