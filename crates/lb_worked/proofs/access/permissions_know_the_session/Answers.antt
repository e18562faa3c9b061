use Rattle.lb_worked.proofs.Sessions.{sees_own, owner_is_not_free, one_role, no_role, role_is_no_group}
use Rattle.lb_worked.proofs.access.permissions_know_the_session.Goals as goal

pub returns-clause-sees_own : goal.returns-clause-sees_own
returns-clause-sees_own c = sees_own

pub returns-clause-owner_is_not_free : goal.returns-clause-owner_is_not_free
returns-clause-owner_is_not_free c = owner_is_not_free

pub returns-clause-one_role : goal.returns-clause-one_role
returns-clause-one_role c = one_role

pub returns-clause-no_role : goal.returns-clause-no_role
returns-clause-no_role c = no_role

pub returns-clause-role_is_no_group : goal.returns-clause-role_is_no_group
returns-clause-role_is_no_group c = role_is_no_group
