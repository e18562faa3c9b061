-- Writes to the table T of specs/Policy: which rows may be written, and which label is stored.
use Rattle.std.specs.Prelude.{ℕ, ◌≡◌, Bool, true, false, List, [], ◌∷◌, ◌++◌, Some, codes}
use Rattle.lb_base.specs.declared.rule.Rule.TheVariants as rules
use Rattle.lb_base.specs.declared.value.Value.{Value}
use Rattle.lb_tree.specs.declared.query.Atom.TheVariants as atoms
use Rattle.lb_tree.specs.declared.query.Expr.{Expr}
use Rattle.lb_stmt.specs.declared.write.Stmt.{Stmt}
use Rattle.lb_cat.specs.declared.refusal.Refusal.TheVariants as refusals
use Rattle.lb_cat.specs.declared.reply.Verb.TheVariants as verbs
use Rattle.lb_answer.specs.Answer.{Answered}
use Rattle.lb_worked.specs.Changes.{insert, insert_into, update, wrote, refused}
use Rattle.lb_worked.specs.Policy.{cat, t, e, single, row, label}
use Rattle.lb_worked.specs.Trees.{atom, col, int, text, equal, in_list}
use Rattle.lb_worked.specs.Tables.{holding, number, answered}

-- MID:HR:FR and LOW:():(), which ANN can read, and TOP:HR:FR, which she can't
abbrev pub one : List Value
one = row 1 (codes "a") (label 2 1 4)

-- the second row
abbrev pub two : List Value
two = row 2 (codes "b") (label 1 1 4)

-- the third row
abbrev pub three : List Value
three = row 3 (codes "c") (label 3 0 0)

-- the three rows
abbrev pub all : List (List Value)
all = one ∷ two ∷ three ∷ []

-- what a write to T is answered where the policy says RESTRICT, or OVERRIDE
abbrev pub to_t : Bool → List ℕ → Stmt → Answered
to_t restrict user s = answered (cat restrict) (holding t all ∷ holding e [] ∷ holding single ((number 1 ∷ []) ∷ []) ∷ []) user s

-- SECLABEL('P', text)
abbrev pub seclabel : List ℕ → Expr
seclabel l = atom (atoms.SecLabel (codes "P") l)

-- UPDATE T SET V = 'z' WHERE ID = 1, by ANN: the row takes her label for writing, MID:HR:EU
abbrev pub TakesOwnLabel : Type 0
TakesOwnLabel = to_t true (codes "ANN") (update (codes "T") (codes "V") (text (codes "z")) (Some (equal (col (codes "ID")) (int 1)))) ≡ wrote verbs.Updated 1 t (row 1 (codes "z") (label 2 1 2) ∷ two ∷ three ∷ [])

-- UPDATE T SET L = L WHERE ID = 1 keeps the label
abbrev pub KeepsLabel : Type 0
KeepsLabel = to_t true (codes "ANN") (update (codes "T") (codes "L") (col (codes "L")) (Some (equal (col (codes "ID")) (int 1)))) ≡ wrote verbs.Updated 1 t all

-- UPDATE T SET L = NULL WHERE ID = 1: null counts as not given
abbrev pub NullIsNotGiven : Type 0
NullIsNotGiven = to_t true (codes "ANN") (update (codes "T") (codes "L") (atom atoms.Null) (Some (equal (col (codes "ID")) (int 1)))) ≡ wrote verbs.Updated 1 t (row 1 (codes "a") (label 2 1 2) ∷ two ∷ three ∷ [])

-- UPDATE T SET V = 'z' WHERE ID IN (1, 3), by ANN: LOW is below her level for writing, and nothing is changed
abbrev pub ReadableNotWritable : Type 0
ReadableNotWritable = to_t true (codes "ANN") (update (codes "T") (codes "V") (text (codes "z")) (Some (in_list (col (codes "ID")) (int 1 ∷ int 3 ∷ [])))) ≡ refused (refusals.RowWrite (codes "LEVEL") rules.WriteDown)

-- INSERT INTO T SELECT 8, 'h', SECLABEL('P', 'LOW:IT:EU') FROM ONE: LEVEL fails before DEPT
abbrev pub FirstComponent : Type 0
FirstComponent = to_t true (codes "ANN") (insert (codes "T") (int 8 ∷ text (codes "h") ∷ seclabel (codes "LOW:IT:EU") ∷ []) (codes "ONE")) ≡ refused (refusals.LabelWrite (codes "LEVEL") rules.WriteDown)

-- where the policy says OVERRIDE, the session's own label is stored
abbrev pub Overridden : Type 0
Overridden = to_t false (codes "ANN") (insert (codes "T") (int 8 ∷ text (codes "h") ∷ seclabel (codes "LOW:IT:EU") ∷ []) (codes "ONE")) ≡ wrote verbs.Inserted 1 t (all ++ (row 8 (codes "h") (label 2 1 2) ∷ []))

-- EVE holds no label for writing: a label that she can write is stored as it is given
abbrev pub GivenWithoutLabel : Type 0
GivenWithoutLabel = to_t true (codes "EVE") (insert (codes "T") (int 9 ∷ text (codes "x") ∷ seclabel (codes "():():()") ∷ []) (codes "ONE")) ≡ wrote verbs.Inserted 1 t (all ++ (row 9 (codes "x") (label 0 0 0) ∷ []))

-- but she has none to be stored where null is given
abbrev pub NoOwnLabel : Type 0
NoOwnLabel = to_t true (codes "EVE") (insert (codes "T") (int 9 ∷ text (codes "x") ∷ atom atoms.Null ∷ []) (codes "ONE")) ≡ refused (refusals.NoWriteLabel (codes "P"))

-- INSERT INTO T (ID, V) SELECT 2, 'x' FROM ONE, by ANN: a key is taken by a row that she doesn't see
abbrev pub HiddenKey : Type 0
HiddenKey = to_t true (codes "ANN") (insert_into (codes "T") (codes "ID" ∷ codes "V" ∷ []) (int 2 ∷ text (codes "x") ∷ []) (codes "ONE")) ≡ refused (refusals.DuplicateKey (codes "T"))

-- INSERT INTO E SELECT 'y', 1 FROM ONE, by ANN: PAY is given, and she can't write it
abbrev pub SecuredColumn : Type 0
SecuredColumn = to_t true (codes "ANN") (insert (codes "E") (text (codes "y") ∷ int 1 ∷ []) (codes "ONE")) ≡ refused (refusals.ColumnWrite (codes "PAY") (codes "LEVEL") rules.WriteUp)
