use Rattle.lb_worked.proofs.Stored.{takes_own_label, keeps_label, null_is_not_given, readable_not_writable, first_component, overridden, given_without_label, no_own_label, hidden_key, secured_column}
use Rattle.lb_worked.proofs.writes.labels_are_stored.Goals as goal

pub returns-clause-takes_own_label : goal.returns-clause-takes_own_label
returns-clause-takes_own_label c = takes_own_label

pub returns-clause-keeps_label : goal.returns-clause-keeps_label
returns-clause-keeps_label c = keeps_label

pub returns-clause-null_is_not_given : goal.returns-clause-null_is_not_given
returns-clause-null_is_not_given c = null_is_not_given

pub returns-clause-readable_not_writable : goal.returns-clause-readable_not_writable
returns-clause-readable_not_writable c = readable_not_writable

pub returns-clause-first_component : goal.returns-clause-first_component
returns-clause-first_component c = first_component

pub returns-clause-overridden : goal.returns-clause-overridden
returns-clause-overridden c = overridden

pub returns-clause-given_without_label : goal.returns-clause-given_without_label
returns-clause-given_without_label c = given_without_label

pub returns-clause-no_own_label : goal.returns-clause-no_own_label
returns-clause-no_own_label c = no_own_label

pub returns-clause-hidden_key : goal.returns-clause-hidden_key
returns-clause-hidden_key c = hidden_key

pub returns-clause-secured_column : goal.returns-clause-secured_column
returns-clause-secured_column c = secured_column
