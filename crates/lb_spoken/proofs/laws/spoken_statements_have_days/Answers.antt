use Rattle.lb_spoken.proofs.Filters.{statements_read_days}
use Rattle.lb_spoken.proofs.Statements.{statements_have_days, changes_have_days}
use Rattle.lb_spoken.proofs.laws.spoken_statements_have_days.Goals as goal

pub returns-clause-statements : goal.returns-clause-statements
returns-clause-statements c = statements_have_days

pub returns-clause-changes : goal.returns-clause-changes
returns-clause-changes c = changes_have_days

pub returns-clause-reads : goal.returns-clause-reads
returns-clause-reads c = statements_read_days
