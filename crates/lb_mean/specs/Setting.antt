-- What the meaning of a tree depends on: the session, the day, policies and tables; and the environments in which names are looked up.
use Rattle.std.specs.Prelude.{ℕ, List, [], map, Option, Ok, ℤ}
use Rattle.lb_base.specs.declared.value.Value.{Value}
use Rattle.lb_base.specs.Evaluated.{Evaluated}
use Rattle.lb_cat.specs.declared.cred.Cred.{Cred}
use Rattle.lb_cat.specs.Catalog.{Policy}

-- a column of a table: its name, and the policy whose labels it holds, if it holds labels
pub record SeenColumn : Type 0 where
  pub name : List ℕ
  pub policy : Option Policy

-- What is seen of a table: its columns; its rows, or the fault of a permission; and what the outputs of a statement show of
-- the values of a row, each of which may be the fault of a mask.
pub record Source : Type 0 where
  pub columns : List SeenColumn
  pub rows : Evaluated (List (List Value))
  pub shown : List Value → List (Evaluated Value)

-- what a tree means depends on the session, the day, the policies by their names, and what is seen of the tables by their names
pub record Setting : Type 0 where
  pub cred : Cred
  -- in days since 1970-01-01
  pub day : ℤ
  pub policies : List ℕ → Option Policy
  pub sources : List ℕ → Source

-- ---- environments

-- The row of one table of FROM: its correlation name, the table's columns, their values, and what the outputs of a statement
-- show of these. A value may be a fault, since a mask that stands for a column fails only where the column is asked for.
pub record Piece : Type 0 where
  pub correlation : List ℕ
  pub columns : List SeenColumn
  pub cells : List (Evaluated Value)
  pub shown : List (Evaluated Value)

-- a joined row has the row of each table of FROM
abbrev pub JoinedRow : Type 0
JoinedRow = List Piece

-- what a query adds for one of its rows or groups: the rows in which its columns are looked up, and the rows of the group
pub record Frame : Type 0 where
  pub row : JoinedRow
  pub group : List JoinedRow

-- the frames of the query and of those round it, the innermost first
abbrev pub Env : Type 0
Env = List Frame

-- the frame of a row that stands in no group
abbrev pub row_frame : JoinedRow → Frame
row_frame row = record { row = row; group = [] }

-- values, none of which is a fault
abbrev pub given : List Value → List (Evaluated Value)
given vs = map (λ v. Ok v) vs

-- the row in which the outputs of a statement look columns up
abbrev pub shown_piece : Piece → Piece
shown_piece p = record p { cells = p.shown }

-- the frame of a row or a group as the outputs of a statement see it, each row of the group too
abbrev pub shown_frame : Frame → Frame
shown_frame f = record { row = map shown_piece f.row; group = map (map shown_piece) f.group }
