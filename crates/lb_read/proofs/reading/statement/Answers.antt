use Rattle.std.proofs.Common.{true, false, sym, ◌∙◌}
use Rattle.lb_tok.specs.Changes.{IsDefinition}
use Rattle.lb_tok.specs.Grammar.{IsQueryOrWrite}
use Rattle.lb_readd.proofs.Choice.{definitions_decide, others_decide}
use Rattle.lb_read.proofs.Chosen.{all_read, all_refused}
use Rattle.lb_read.proofs.reading.statement.Goals as goal

pub returns-then-begins_definition-clause-read : goal.returns-then-begins_definition-clause-read
returns-then-begins_definition-clause-read c = all_read true IsDefinition c.args.found.now _ definitions_decide (rw (← c.as_slice.ensures) (sym c.begins_definition.ensures ∙ c.if-begins_definition.true)) c.definition.ensures.read

pub returns-then-begins_definition-clause-refused : goal.returns-then-begins_definition-clause-refused
returns-then-begins_definition-clause-refused c = all_refused true IsDefinition c.args.found.now _ definitions_decide (rw (← c.as_slice.ensures) (sym c.begins_definition.ensures ∙ c.if-begins_definition.true)) c.definition.ensures.refused

pub returns-else-begins_definition-clause-read : goal.returns-else-begins_definition-clause-read
returns-else-begins_definition-clause-read c = all_read false IsQueryOrWrite c.args.found.now _ others_decide (rw (← c.as_slice.ensures) (sym c.begins_definition.ensures ∙ c.if-begins_definition.false)) c.query_or_write.ensures.read

pub returns-else-begins_definition-clause-refused : goal.returns-else-begins_definition-clause-refused
returns-else-begins_definition-clause-refused c = all_refused false IsQueryOrWrite c.args.found.now _ others_decide (rw (← c.as_slice.ensures) (sym c.begins_definition.ensures ∙ c.if-begins_definition.false)) c.query_or_write.ensures.refused
