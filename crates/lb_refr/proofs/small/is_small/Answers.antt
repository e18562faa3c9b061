use Rattle.std.proofs.Common.{sym, ap, ◌∙◌}
use Rattle.lb_refr.specs.Shapes.{has_small_tree}
use Rattle.lb_refr.proofs.SmallForms.{form_where}
use Rattle.lb_refr.proofs.small.is_small.Goals as goal

pub returns-in-Select : goal.returns-in-Select
returns-in-Select c = form_where c.args.stmt.now c.selects_whole_table.result (c.selects_whole_table.ensures ∙ ap has_small_tree (sym c.in-Select.is))

pub returns-in-Insert : goal.returns-in-Insert
returns-in-Insert c = form_where c.args.stmt.now c.inserts_texts.result (c.inserts_texts.ensures ∙ ap has_small_tree (sym c.in-Insert.is))

pub returns-in-Change : goal.returns-in-Change
returns-in-Change c = form_where c.args.stmt.now c.is_small_change.result (c.is_small_change.ensures ∙ ap has_small_tree (sym c.in-Change.is))
