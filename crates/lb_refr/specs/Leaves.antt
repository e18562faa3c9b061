-- What a change leaves, told of the records and the rows.
use Rattle.std.specs.Prelude.{◌≡◌, List}
use Rattle.lb_model.specs.declared.catalog.TableRec.{TableRec}
use Rattle.lb_cat.specs.declared.reply.Reply.{Reply}
use Rattle.lb_model.specs.Catalog.{Tables}
use Rattle.lb_model.specs.Change.{Changed}

-- the change leaves those records and those rows, and gives that reply
pub record Leaves (made : Changed) (records : List TableRec) (rows : Tables) (reply : Reply) : Type 0 where
  pub cat : records ≡ made.cat.tables
  pub tables : rows ≡ made.tables
  pub replies : reply ≡ made.reply
