use Rattle.lb_fits.proofs.Statements.{updates_fit, inserts_fit, writes_fit}
use Rattle.lb_fits.proofs.Again.{stays_ready}
use Rattle.lb_fits.proofs.laws.writes_keep_fits.Goals as goal

pub returns-clause-updates : goal.returns-clause-updates
returns-clause-updates c =
    let given = c.typed_writes_give_values_of_their_columns.ensures in
    updates_fit c.candidates_are_kept_rows.ensures.rows given.values given.assignments given.query c.typed_selects_give_outputs_of_their_kinds.ensures c.settings_agree_with_names.ensures.statements c.evaluation_begins_with_rows_in_sight.ensures.target

pub returns-clause-inserts : goal.returns-clause-inserts
returns-clause-inserts c =
    let given = c.typed_writes_give_values_of_their_columns.ensures in
    inserts_fit c.candidates_are_kept_rows.ensures.rows given.values given.assignments given.query c.typed_selects_give_outputs_of_their_kinds.ensures c.settings_agree_with_names.ensures.statements c.evaluation_begins_with_rows_in_sight.ensures.target

pub returns-clause-statements : goal.returns-clause-statements
returns-clause-statements c =
    let given = c.typed_writes_give_values_of_their_columns.ensures in
    writes_fit c.candidates_are_kept_rows.ensures.rows given.values given.assignments given.query c.typed_selects_give_outputs_of_their_kinds.ensures c.settings_agree_with_names.ensures.statements c.evaluation_begins_with_rows_in_sight.ensures.target

pub returns-clause-ready : goal.returns-clause-ready
returns-clause-ready c =
    let given = c.typed_writes_give_values_of_their_columns.ensures in
    stays_ready (writes_fit c.candidates_are_kept_rows.ensures.rows given.values given.assignments given.query c.typed_selects_give_outputs_of_their_kinds.ensures c.settings_agree_with_names.ensures.statements c.evaluation_begins_with_rows_in_sight.ensures.target)
