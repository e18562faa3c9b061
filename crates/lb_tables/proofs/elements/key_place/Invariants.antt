use Rattle.std.proofs.Common.{◌≡◌, ◌+◌, length, drop}
use Rattle.std.specs.List.{position_or_len}
use Rattle.lb_alter.specs.ChangeTable.{columns_in, is_key}
use Rattle.lb_tables.proofs.elements.key_place.Given as goal

-- the key is among the columns that are left, which begin at the place
abbrev pub invariant-loop-element : goal.invariant-loop-element
invariant-loop-element l = record {
  place : position_or_len (is_key l.elements) (columns_in l.elements) ≡ l.place + position_or_len (is_key l.elements) (columns_in (drop l.element-index l.elements));
  all : length (columns_in l.elements) ≡ l.place + length (columns_in (drop l.element-index l.elements));
}
