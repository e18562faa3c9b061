use Rattle.lb_worked.proofs.Labelled.{with_label, without_label, with_exemption, whole_text, readable_text, secured_column, unsecured_column}
use Rattle.lb_worked.proofs.access.labels_decide_on_rows.Goals as goal

pub returns-clause-with_label : goal.returns-clause-with_label
returns-clause-with_label c = with_label

pub returns-clause-without_label : goal.returns-clause-without_label
returns-clause-without_label c = without_label

pub returns-clause-with_exemption : goal.returns-clause-with_exemption
returns-clause-with_exemption c = with_exemption

pub returns-clause-whole_text : goal.returns-clause-whole_text
returns-clause-whole_text c = whole_text

pub returns-clause-readable_text : goal.returns-clause-readable_text
returns-clause-readable_text c = readable_text

pub returns-clause-secured_column : goal.returns-clause-secured_column
returns-clause-secured_column c = secured_column

pub returns-clause-unsecured_column : goal.returns-clause-unsecured_column
returns-clause-unsecured_column c = unsecured_column
