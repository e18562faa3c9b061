use Rattle.std.proofs.Common.{◌≡◌, ◌+◌, drop}
use Rattle.std.specs.List.{position_or_len}
use Rattle.lb_cat.specs.Catalog.{is_column}
use Rattle.lb_protect.proofs.mask.place_of.Given as goal

-- the column is among those that are left, which begin at the place
abbrev pub invariant-loop-column : goal.invariant-loop-column
invariant-loop-column l = record {
  place : position_or_len (is_column l.name) l.columns ≡ l.place + position_or_len (is_column l.name) (drop l.column-index l.columns);
  here : l.place ≡ l.column-index;
}
