-- What a statement starts from.
use Rattle.std.specs.Prelude.{List, Option}
use Rattle.lb_cat.specs.declared.entry.Entry.{Entry}
use Rattle.lb_cat.specs.Stamps.{Kept}
use Rattle.lb_rows.specs.Stamped.{Stamped}

-- the journal that was seen, the catalogue and the rows that it leaves, and the plan where one is kept
pub record Taken (P : Type 0) : Type 0 where
  pub journal : List Entry
  pub catalog : Kept
  pub tables : List Stamped
  pub plan : Option P
