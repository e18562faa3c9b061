-- What contracts see of a book.
use Rattle.std.specs.Prelude.{ℕ, List}
use Rattle.lb_cat.specs.declared.entry.Entry.{Entry}
use Rattle.lb_cat.specs.Stamps.{Kept}
use Rattle.lb_rows.specs.Stamped.{Stamped}
use Rattle.lb_book.specs.Cached.{Cached}

-- the journal, the number of entries that it may have, and for how many there is memory; the catalogue and the rows with their stamps; and
-- the plans that are kept
pub record Content (P : Type 0) : Type 0 where
  pub journal : List Entry
  pub limit : ℕ
  pub spare : ℕ
  pub catalog : Kept
  pub tables : List Stamped
  pub cache : List (Cached P)
