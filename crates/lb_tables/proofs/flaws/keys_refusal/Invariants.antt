use Rattle.std.proofs.Common.{◌≡◌, drop}
use Rattle.lb_alter.specs.ChangeTable.{columns_in, keys_in, key_refusal}
use Rattle.lb_alter.specs.Refusing.{each_passes}
use Rattle.lb_tables.proofs.flaws.keys_refusal.Given as goal

-- the refusal is that of a key that is left
abbrev pub invariant-loop-element : goal.invariant-loop-element
invariant-loop-element l = each_passes (key_refusal (columns_in l.elements)) (keys_in l.elements) ≡ each_passes (key_refusal (columns_in l.elements)) (keys_in (drop l.element-index l.elements))
