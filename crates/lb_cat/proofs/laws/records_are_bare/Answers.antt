use Rattle.lb_cat.proofs.Bare.{tables_are_bare, policies_are_bare, components_are_bare, users_are_bare, roles_are_bare}
use Rattle.lb_cat.proofs.laws.records_are_bare.Goals as goal

pub returns-clause-tables : goal.returns-clause-tables
returns-clause-tables c = tables_are_bare

pub returns-clause-policies : goal.returns-clause-policies
returns-clause-policies c = policies_are_bare

pub returns-clause-components : goal.returns-clause-components
returns-clause-components c = components_are_bare

pub returns-clause-users : goal.returns-clause-users
returns-clause-users c = users_are_bare

pub returns-clause-roles : goal.returns-clause-roles
returns-clause-roles c = roles_are_bare
