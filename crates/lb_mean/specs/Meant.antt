-- What each kind of node of a tree means.
use Rattle.std.specs.Prelude.{ℕ, Bool, List, Option}
use Rattle.lb_base.specs.declared.value.Value.{Value}
use Rattle.lb_base.specs.declared.truth.Truth.{Truth}
use Rattle.lb_base.specs.Evaluated.{Evaluated}
use Rattle.lb_tree.specs.Folds.{Kinds}
use Rattle.lb_cat.specs.Catalog.{Policy}
use Rattle.lb_mean.specs.Setting.{Env, Frame, JoinedRow}

-- An expression: its value; the policy of a value that is a label; whether it is sure, that is has neither arithmetic nor a
-- subquery; and whether it has an aggregate.
pub record Means : Type 0 where
  pub value : Env → Evaluated Value
  pub policy : Env → Option Policy
  pub sure : Bool
  pub total : Bool

-- a condition that is tested by itself
pub record Part : Type 0 where
  pub test : Env → Evaluated Truth
  pub sure : Bool

-- a condition; its parts are those of a list of AND, or else the condition alone
pub record Says : Type 0 where
  pub test : Env → Evaluated Truth
  pub sure : Bool
  pub total : Bool
  pub parts : List Part

-- WHEN condition THEN result
pub record Arms : Type 0 where
  pub when : Says
  pub result : Means

-- WHEN value THEN result, of a CASE with an operand
pub record Chooses : Type 0 where
  pub when : Means
  pub result : Means

-- a part of a sum, and whether it is subtracted
pub record Signs : Type 0 where
  pub minus : Bool
  pub part : Means

-- an item of a select list: its values, the policy of each that is a label, its output name, and whether it has an aggregate
pub record Shows : Type 0 where
  pub values : Env → List (Evaluated Value)
  pub policies : Env → List (Option Policy)
  pub name : Option (List ℕ)
  pub total : Bool

-- a join: the rows that are seen of its table, and the rows by which it continues a joined row, or the fault of ON in their place
pub record Joins : Type 0 where
  pub seen : Evaluated (List (List Value))
  pub rows : Env → JoinedRow → List (Evaluated JoinedRow)

-- a table with its joins: the rows that are seen of each of their tables, and the joined rows, or the faults of ON in their places
pub record Chains : Type 0 where
  pub seen : List (Evaluated (List (List Value)))
  pub rows : Env → List (Evaluated JoinedRow)

-- a query: the frames of its rows or groups up to HAVING, where ORDER BY has an aggregate or not; its items; whether it is DISTINCT
pub record Answers : Type 0 where
  pub frames : Bool → Env → Evaluated (List Frame)
  pub items : List Shows
  pub distinct : Bool

-- the meanings of the nine kinds of nodes
abbrev pub meaning : Kinds
meaning = record { cond = Says; expr = Means; item = Shows; join = Joins; arm = Arms; chain = Chains; choice = Chooses; query = Answers; signed = Signs }
