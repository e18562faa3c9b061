-- What sessions see of the table T of specs/Policy: the label test of each row, and the texts of labels.
use Rattle.std.specs.Prelude.{ℕ, ◌≡◌, true, List, [], ◌∷◌, Some, None, codes}
use Rattle.lb_base.specs.declared.rule.Rule.TheVariants as rules
use Rattle.lb_tree.specs.declared.query.Atom.TheVariants as atoms
use Rattle.lb_tree.specs.declared.query.Expr.{Expr}
use Rattle.lb_stmt.specs.declared.write.Stmt.TheVariants as stmts
use Rattle.lb_cat.specs.declared.refusal.Refusal.TheVariants as refusals
use Rattle.lb_cat.specs.declared.reply.Reply.{Reply}
use Rattle.lb_cat.specs.declared.reply.Reply.TheVariants as replies
use Rattle.lb_worked.specs.Policy.{cat, rows}
use Rattle.lb_worked.specs.Trees.{atom, bare, col, int, equal, item, tab, from, select, asked}
use Rattle.lb_worked.specs.Tables.{number, word, answered}

-- SELECT ID FROM T
abbrev pub ids : List ℕ → Reply
ids user = (answered (cat true) rows user (stmts.Select (asked (select (item (col (codes "ID")) ∷ []) (from (tab (codes "T")) ∷ []) None)))).reply

-- ANN sees MID:HR:FR, LOW:():(), MID:HR:(FR,US) and ():():(): row 2 fails in LEVEL, row 4 in DEPT, and row 6 in REGION
abbrev pub WithLabel : Type 0
WithLabel = ids (codes "ANN") ≡ replies.Rows ((number 1 ∷ []) ∷ (number 3 ∷ []) ∷ (number 5 ∷ []) ∷ (number 7 ∷ []) ∷ [])

-- BOB, who holds no label, sees the row whose label is empty
abbrev pub WithoutLabel : Type 0
WithoutLabel = ids (codes "BOB") ≡ replies.Rows ((number 7 ∷ []) ∷ [])

-- an exemption counts without a label: EVE sees the row with LEVEL alone too
abbrev pub WithExemption : Type 0
WithExemption = ids (codes "EVE") ≡ replies.Rows ((number 3 ∷ []) ∷ (number 7 ∷ []) ∷ [])

-- SELECT .. FROM T WHERE ID = 5, by ANN
abbrev pub of_five : Expr → Reply
of_five e = (answered (cat true) rows (codes "ANN") (stmts.Select (asked (select (item e ∷ []) (from (tab (codes "T")) ∷ []) (Some (equal (col (codes "ID")) (int 5))))))).reply

-- a selected label is told whole
abbrev pub WholeText : Type 0
WholeText = of_five (col (codes "L")) ≡ replies.Rows ((word (codes "MID:HR:(FR,US)") ∷ []) ∷ [])

-- SECLABEL_TO_CHAR leaves out US, which ANN couldn't read alone
abbrev pub ReadableText : Type 0
ReadableText = of_five (atom (atoms.SecLabelToChar (codes "P") (bare (codes "L")))) ≡ replies.Rows ((word (codes "MID:HR:FR") ∷ []) ∷ [])

-- SELECT .. FROM E
abbrev pub of_e : List ℕ → Reply
of_e n = (answered (cat true) rows (codes "ANN") (stmts.Select (asked (select (item (col n) ∷ []) (from (tab (codes "E")) ∷ []) None)))).reply

-- PAY is secured with FULL: the first component that fails is told
abbrev pub SecuredColumn : Type 0
SecuredColumn = of_e (codes "PAY") ≡ replies.Refused (refusals.ColumnRead (codes "PAY") (codes "LEVEL") rules.ReadArray)

-- a column that isn't named isn't tested
abbrev pub UnsecuredColumn : Type 0
UnsecuredColumn = of_e (codes "NAME") ≡ replies.Rows ((word (codes "x") ∷ []) ∷ [])
