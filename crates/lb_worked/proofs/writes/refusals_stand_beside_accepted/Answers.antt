use Rattle.lb_worked.proofs.Refused.{may_select, may_not_select, may_not_update, may_delete, owner_may, set_masked, set_own, set_target}
use Rattle.lb_worked.proofs.writes.refusals_stand_beside_accepted.Goals as goal

pub returns-clause-may_select : goal.returns-clause-may_select
returns-clause-may_select c = may_select

pub returns-clause-may_not_select : goal.returns-clause-may_not_select
returns-clause-may_not_select c = may_not_select

pub returns-clause-may_not_update : goal.returns-clause-may_not_update
returns-clause-may_not_update c = may_not_update

pub returns-clause-may_delete : goal.returns-clause-may_delete
returns-clause-may_delete c = may_delete

pub returns-clause-owner_may : goal.returns-clause-owner_may
returns-clause-owner_may c = owner_may

pub returns-clause-set_masked : goal.returns-clause-set_masked
returns-clause-set_masked c = set_masked

pub returns-clause-set_own : goal.returns-clause-set_own
returns-clause-set_own c = set_own

pub returns-clause-set_target : goal.returns-clause-set_target
returns-clause-set_target c = set_target
