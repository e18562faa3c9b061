use Rattle.std.proofs.Common.{◌≡◌, [], take, drop}
use Rattle.lb_alter.specs.ChangeTable.{columns_in, columns_refusal}
use Rattle.lb_tables.proofs.Named.{refusal_after}
use Rattle.lb_tables.proofs.flaws.columns_refusal.Given as goal

-- the refusal is that of an element that is left
abbrev pub invariant-loop-place : goal.invariant-loop-place
invariant-loop-place l = columns_refusal [] (columns_in l.elements) ≡ refusal_after (take l.place l.elements) (drop l.place l.elements)
