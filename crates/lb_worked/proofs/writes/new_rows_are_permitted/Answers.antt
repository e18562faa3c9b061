use Rattle.lb_worked.proofs.Denied.{row_allowed, row_denied, row_may_not_leave, row_unseen_stays}
use Rattle.lb_worked.proofs.writes.new_rows_are_permitted.Goals as goal

pub returns-clause-row_allowed : goal.returns-clause-row_allowed
returns-clause-row_allowed c = row_allowed

pub returns-clause-row_denied : goal.returns-clause-row_denied
returns-clause-row_denied c = row_denied

pub returns-clause-row_may_not_leave : goal.returns-clause-row_may_not_leave
returns-clause-row_may_not_leave c = row_may_not_leave

pub returns-clause-row_unseen_stays : goal.returns-clause-row_unseen_stays
returns-clause-row_unseen_stays c = row_unseen_stays
