-- What a store holds, and what a statement that ran left in it.
use Rattle.std.specs.Prelude.{ℕ, ℤ, ◌≡◌, List}
use Rattle.lb_stmt.specs.declared.write.Stmt.{Stmt}
use Rattle.lb_cat.specs.declared.reply.Reply.{Reply}
use Rattle.lb_model.specs.Catalog.{Cat, Tables}
use Rattle.lb_model.specs.Step.{outcome}

-- the catalogue and the rows of its tables
pub record Stored : Type 0 where
  pub cat : Cat
  pub tables : Tables

-- the statement of the user ran: what stands then and the reply are those of its outcome, with whatever groups and on whatever day
pub record Ran (before after : Stored) (user : List ℕ) (s : Stmt) (reply : Reply) : Type 0 where
  pub cat : (groups : List (List ℕ)) (day : ℤ) → after.cat ≡ (outcome before.cat before.tables user groups day s).cat
  pub tables : (groups : List (List ℕ)) (day : ℤ) → after.tables ≡ (outcome before.cat before.tables user groups day s).tables
  pub replies : (groups : List (List ℕ)) (day : ℤ) → reply ≡ (outcome before.cat before.tables user groups day s).reply
