-- INSERT with several rows of VALUES, and UPDATE that sets two columns from each other, over the table K of specs/Written.
use Rattle.std.specs.Prelude.{ℕ, ◌≡◌, List, [], ◌∷◌, codes}
use Rattle.lb_tree.specs.declared.query.Atom.TheVariants as atoms
use Rattle.lb_tree.specs.declared.query.Expr.{Expr}
use Rattle.lb_cat.specs.declared.refusal.Refusal.TheVariants as refusals
use Rattle.lb_cat.specs.declared.reply.Verb.TheVariants as verbs
use Rattle.lb_answer.specs.Answer.{Answered}
use Rattle.lb_worked.specs.Changes.{insert_values, update_both, wrote, refused}
use Rattle.lb_worked.specs.Written.{k, w, one, two, to_k}
use Rattle.lb_worked.specs.Trees.{atom, col, int, text, plus}
use Rattle.lb_worked.specs.Tables.{holding, number, greatest, with_tables, answered}

-- two expressions
abbrev pub pair : Expr → Expr → List Expr
pair a b = a ∷ b ∷ []

-- 9223372036854775807 + 1
abbrev pub beyond : Expr
beyond = plus (int greatest) (int 1)

-- a NULL literal
abbrev pub null : Expr
null = atom atoms.Null

-- an INSERT of rows into K
abbrev pub into_k : List (List Expr) → Answered
into_k rows = to_k (insert_values (codes "K") rows)

-- INSERT INTO K VALUES (4, 1), (3, 2): the rows go last in the order of VALUES, and not in the order of their keys
abbrev pub InOrder : Type 0
InOrder = into_k (pair (int 4) (int 1) ∷ pair (int 3) (int 2) ∷ []) ≡ wrote verbs.Inserted 2 k (one ∷ two ∷ (number 4 ∷ number 1 ∷ []) ∷ (number 3 ∷ number 2 ∷ []) ∷ [])

-- INSERT INTO K VALUES (3, 1), (4, 9223372036854775807 + 1): nothing is written, not even the first row
abbrev pub SecondFaults : Type 0
SecondFaults = into_k (pair (int 3) (int 1) ∷ pair (int 4) beyond ∷ []) ≡ refused refusals.Overflow

-- INSERT INTO K VALUES (NULL, 1), (4, 9223372036854775807 + 1): the first row's null comes before the second row's value
abbrev pub NullBeforeFault : Type 0
NullBeforeFault = into_k (pair null (int 1) ∷ pair (int 4) beyond ∷ []) ≡ refused (refusals.NullValue (codes "K") (codes "ID"))

-- INSERT INTO K VALUES (NULL, 9223372036854775807 + 1): but all values of one row come before its null
abbrev pub FaultBeforeNull : Type 0
FaultBeforeNull = into_k (pair null beyond ∷ []) ≡ refused refusals.Overflow

-- INSERT INTO K VALUES (1, 1), (NULL, 1): the first row has an old key, but keys are compared after all rows
abbrev pub NullBeforeKeys : Type 0
NullBeforeKeys = into_k (pair (int 1) (int 1) ∷ pair null (int 1) ∷ []) ≡ refused (refusals.NullValue (codes "K") (codes "ID"))

-- INSERT INTO K VALUES (3, 1), (3, 2): the new rows are compared with each other too
abbrev pub DoubledInValues : Type 0
DoubledInValues = into_k (pair (int 3) (int 1) ∷ pair (int 3) (int 2) ∷ []) ≡ refused (refusals.DuplicateKey (codes "K"))

-- an INSERT of two texts into W
abbrev pub into_w : List ℕ → List ℕ → Answered
into_w a b = answered (with_tables (w ∷ [])) (holding w [] ∷ []) (codes "ANN") (insert_values (codes "W") ((text a ∷ []) ∷ (text b ∷ []) ∷ []))

-- INSERT INTO W VALUES ('c'), ('ab'), over W (V VARCHAR(1)): a text that is too wide isn't cut
abbrev pub NotCut : Type 0
NotCut = into_w (codes "c") (codes "ab") ≡ refused (refusals.TooWide (codes "W") (codes "V") 1)

-- UPDATE K SET ID = X, X = ID: both see the old row; one after the other, X would get the new ID
abbrev pub SwapsColumns : Type 0
SwapsColumns = to_k (update_both (codes "K") (codes "ID") (col (codes "X")) (codes "X") (col (codes "ID"))) ≡ wrote verbs.Updated 2 k ((number 10 ∷ number 1 ∷ []) ∷ (number 20 ∷ number 2 ∷ []) ∷ [])

-- UPDATE K SET X = ID, ID = X: the order of SET tells nothing, and each value goes to its own column
abbrev pub SwapsBackwards : Type 0
SwapsBackwards = to_k (update_both (codes "K") (codes "X") (col (codes "ID")) (codes "ID") (col (codes "X"))) ≡ wrote verbs.Updated 2 k ((number 10 ∷ number 1 ∷ []) ∷ (number 20 ∷ number 2 ∷ []) ∷ [])
