use Rattle.std.proofs.Common.{◌≡◌, true, ◌++◌, map, drop}
use Rattle.std.specs.List.{list_all}
use Rattle.lb_alter.specs.ChangeTable.{columns_in, new_column}
use Rattle.lb_tables.specs.Makeable.{is_makeable}
use Rattle.lb_tables.proofs.create.new_columns.Given as goal

-- the columns that are left go after those so far
abbrev pub invariant-loop-element : goal.invariant-loop-element
invariant-loop-element l = record {
  made : l.columns ++ map (new_column l.elements l.policy) (columns_in (drop l.element-index l.elements)) ≡ map (new_column l.elements l.policy) (columns_in l.elements);
  makeable : list_all (is_makeable l.policy) (columns_in (drop l.element-index l.elements)) ≡ true;
}
