-- What typing gives of each kind of node, beside the names in it.
use Rattle.std.specs.Prelude.{ℕ, Bool, true, false, List, map, Option, None}
use Rattle.lb_tree.specs.declared.query.Tab.{Tab}
use Rattle.lb_tree.specs.Folds.{Kinds}
use Rattle.lb_names.specs.declared.place.Seen.{Seen}
use Rattle.lb_names.specs.Sights.{Sight}
use Rattle.lb_names.specs.Marks.{Marks, JoinMarks, ChainMarks, Marking}
use Rattle.lb_names.specs.Kinds.{Kind}
use Rattle.lb_names.specs.Typed.{Typed}
use Rattle.lb_names.specs.Places.{Place}

-- an expression: its kind at a place, by the number of its node
pub record Means : Type 0 where
  pub marks : Sight → Marks
  pub kind : Place → ℕ → Typed Kind
  -- it has an aggregate of its own query
  pub total : Bool
  -- it has no arithmetic and no subquery
  pub sure : Bool

-- a condition: whether it has types at a place, by the number of its node
pub record Says : Type 0 where
  pub marks : Sight → Marks
  pub typed : Place → ℕ → Typed (Unit {0})
  pub total : Bool
  pub sure : Bool

-- what is wanted of a select list
pub record Wanted : Type 0 where
  -- it belongs to a subquery of IN or of a comparison
  pub one : Bool
  -- its query has GROUP BY
  pub grouped : Bool
  pub distinct : Bool
  -- the kinds of the columns that are to take the outputs from here on
  pub kinds : Option (List Kind)

-- an item of a select list: the kinds of its outputs
pub record Shows : Type 0 where
  pub marks : Sight → Marks
  pub outputs : Wanted → Place → ℕ → Typed (List Kind)
  -- the number of its outputs in a query with these items
  pub width : List Seen → ℕ
  pub total : Bool

-- a join: its table, and its ON condition
pub record Joins : Type 0 where
  pub marked : JoinMarks
  -- its ON condition at the place of that
  pub typed : Place → ℕ → Typed (Unit {0})

-- a chain: its first table, and the joins after it
pub record Chains : Type 0 where
  pub first : Tab
  pub joins : List Joins

-- WHEN condition THEN result
pub record Arms : Type 0 where
  pub marks : Sight → Marks
  pub when : Says
  pub result : Means

-- WHEN value THEN result
pub record Choices : Type 0 where
  pub marks : Sight → Marks
  pub when : Means
  pub result : Means

-- what a query is for
pub record Role : Type 0 where
  pub subquery : Bool
  -- it is a subquery of IN or of a comparison
  pub one : Bool
  -- its ORDER BY has an aggregate
  pub total : Bool
  -- the kinds of the columns that take its outputs
  pub wanted : Option (List Kind)

-- a query: the kinds of its outputs
pub record Answers : Type 0 where
  pub marks : Sight → Marks
  pub kinds : Role → Place → ℕ → Typed (List Kind)
  -- where its select list and its ORDER BY stand
  pub shown : Role → Place → Place

-- what typing gives of each kind of node
abbrev pub typing : Kinds
typing = record { cond = Says; expr = Means; item = Shows; join = Joins; arm = Arms; chain = Chains; choice = Choices; query = Answers; signed = Means }

-- the names in a chain
abbrev pub chain_marked : Chains → ChainMarks
chain_marked ch = record { first = ch.first; joins = map (λ j. j.marked) ch.joins }

-- the names in each node are among what typing gives of it
abbrev pub typing_marks : Marking typing
typing_marks = record { cond = λ x. x.marks; expr = λ x. x.marks; item = λ x. x.marks; join = λ j. j.marked; arm = λ x. x.marks; chain = chain_marked; choice = λ x. x.marks; query = λ x. x.marks; signed = λ x. x.marks }

-- a subquery, of IN or of a comparison or not
abbrev pub subquery : Bool → Role
subquery one = record { subquery = true; one = one; total = false; wanted = None }
