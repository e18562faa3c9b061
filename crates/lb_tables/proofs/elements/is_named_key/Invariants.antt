use Rattle.std.proofs.Common.{◌≡◌, drop}
use Rattle.lb_cat.specs.Catalog.{is_among}
use Rattle.lb_alter.specs.ChangeTable.{keys_in}
use Rattle.lb_tables.proofs.elements.is_named_key.Given as goal

-- the key is among those that are left
abbrev pub invariant-loop-element : goal.invariant-loop-element
invariant-loop-element l = is_among (keys_in l.elements) l.name ≡ is_among (keys_in (drop l.element-index l.elements)) l.name
