use Rattle.std.proofs.Common.{◌≡◌, false, drop}
use Rattle.lb_alter.specs.ChangeTable.{columns_in, flaws_refusal}
use Rattle.lb_tables.proofs.flaws.flaws_refusal.Given as goal

-- the refusal is that of a column that is left
abbrev pub invariant-loop-element : goal.invariant-loop-element
invariant-loop-element l = flaws_refusal l.protected false false l.elements (columns_in l.elements) ≡ flaws_refusal l.protected l.label_before l.key_before l.elements (columns_in (drop l.element-index l.elements))
