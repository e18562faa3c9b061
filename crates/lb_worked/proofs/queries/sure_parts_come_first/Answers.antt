use Rattle.lb_worked.proofs.Sure.{sure_part_first, stops_at_unknown, under_not, not_sure, in_case}
use Rattle.lb_worked.proofs.queries.sure_parts_come_first.Goals as goal

pub returns-clause-sure_part_first : goal.returns-clause-sure_part_first
returns-clause-sure_part_first c = sure_part_first

pub returns-clause-stops_at_unknown : goal.returns-clause-stops_at_unknown
returns-clause-stops_at_unknown c = stops_at_unknown

pub returns-clause-under_not : goal.returns-clause-under_not
returns-clause-under_not c = under_not

pub returns-clause-not_sure : goal.returns-clause-not_sure
returns-clause-not_sure c = not_sure

pub returns-clause-in_case : goal.returns-clause-in_case
returns-clause-in_case c = in_case
