-- What the definitions of writes come to, in the words of lists, and what answers don't depend on.
use Rattle.std.specs.Prelude.{ℕ, ◌≡◌, Bool, true, false, if◌then◌else◌, List, [], ◌∷◌, ◌++◌, map, length, Option, Some, None, ℤ, Ok}
use Rattle.lb_base.specs.declared.value.Value.{Value}
use Rattle.lb_base.specs.Evaluated.{◌>>=◌, passing}
use Rattle.lb_stmt.specs.declared.write.Stmt.{Stmt}
use Rattle.lb_cat.specs.declared.cred.Cred.{Cred}
use Rattle.lb_cat.specs.declared.reply.Reply.{Reply}
use Rattle.lb_cat.specs.declared.reply.Reply.TheVariants as replies
use Rattle.lb_cat.specs.Catalog.{Cat, Table, Policy}
use Rattle.lb_names.specs.Mentions.{in_stmt}
use Rattle.lb_rows.specs.Tables.{Tables, Version}
use Rattle.lb_mean.specs.Answer.{Checks}
use Rattle.lb_mean.specs.Frame.{Agrees}
use Rattle.lb_mean.specs.Laws.{SameMention, SameSession, SameHolding}
use Rattle.lb_answer.specs.Answer.{answer}
use Rattle.lb_answer.specs.Basis.{Basis}
use Rattle.lb_answer.specs.Candidates.{Marked, candidates, taken_rows, other_rows}
use Rattle.lb_answer.specs.Checks.{new_row, row_fits}
use Rattle.lb_answer.specs.Keys.{is_one_key}
use Rattle.lb_answer.specs.OrRefused.{all_made}
use Rattle.lb_answer.specs.Writes.{renewed}

-- the candidates are the rows that WHERE keeps of the visible ones, with the same first fault
abbrev pub AreKept : Basis (List Value) → List (List Value) → Type 0
AreKept b rows = (candidates b rows >>= λ ms. Ok (taken_rows ms)) ≡ (passing b.sees rows >>= passing b.keeps)

-- each row of the table has its mark, in the order of the table
abbrev pub AreRows : Basis (List Value) → List (List Value) → List Marked → Type 0
AreRows b rows marks = candidates b rows ≡ Ok marks → map (λ m. m.row) marks ≡ rows

-- two keys of a list are one
pub record HasTwo (ks : List Value) : Type 0 where
  pub front : List Value
  pub one : Value
  pub between : List Value
  pub other : Value
  pub rest : List Value
  pub splits : ks ≡ front ++ (one ∷ (between ++ (other ∷ rest)))
  pub alike : is_one_key other one ≡ true

-- the rows at the places of those that aren't taken
abbrev pub beside : List Marked → List (List Value) → List (List Value)
beside (m ∷ ms) (row ∷ rows) = if m.taken then beside ms rows else row ∷ beside ms rows
beside _ _ = []

-- an UPDATE keeps the number of rows, and each row that it doesn't take stays in its place as it was
pub record Stay (marks : List Marked) (news : List (List Value)) : Type 0 where
  pub many : length news ≡ length marks
  pub others : beside marks news ≡ other_rows marks

-- so it is for the new rows of each UPDATE
abbrev pub OthersStay : Option Policy → Basis (List Value) → Table → List ℕ → List Marked → List (List Value) → Type 0
OthersStay p b t places marks news = all_made (map (renewed p b t places) marks) ≡ Ok news → Stay marks news

-- the new row that a candidate makes, with the label that is stored, has no null where none may be and no text that is too wide
abbrev pub Fits : {S : Type 0} → Option Policy → Basis S → Table → List ℕ → Option (List Value) → S → List Value → Type 0
Fits p b t places old source new = new_row p b t places old source ≡ Ok new → row_fits t new ≡ Ok tt

-- the reply tells of a write
abbrev pub is_write : Reply → Bool
is_write (replies.Wrote verb n) = true
is_write _ = false

-- rows are left in a table
abbrev pub has_version : Option Version → Bool
has_version None = false
has_version (Some v) = true

-- rows are left in a table exactly where the reply is that of a write
abbrev pub WroteExactly : Type 0
WroteExactly = (checks : Checks) (C : Cat) (c : Cred) (T : Tables) (day : ℤ) (s : Stmt)
    → is_write (answer checks C c T day s).reply ≡ has_version (answer checks C c T day s).table

-- In one catalogue the answer of a query or a write, and the rows that it leaves, depend on the rows of the tables that the
-- statement mentions and of those that their permissions and masks mention, and on no others.
abbrev pub StatementFrame : Type 0
StatementFrame = (checks : Checks) (C : Cat) (c : Cred) (T U : Tables) (day : ℤ) (s : Stmt) → Agrees (SameMention C C T U) (in_stmt s)
    → answer checks C c T day s ≡ answer checks C c U day s

-- Two catalogues that have the same records of what a statement mentions, and of what its tables mention, answer it alike, where
-- names and types are refused alike.
abbrev pub StatementsAcross : Type 0
StatementsAcross = (checks : Checks) (C D : Cat) (c : Cred) (T U : Tables) (day : ℤ) (s : Stmt) → Agrees (SameMention C D T U) (in_stmt s)
    → checks C.tables C.policies s ≡ checks D.tables D.policies s → answer checks C c T day s ≡ answer checks D c U day s

-- Two sessions with the same user, groups, roles, SECADM authority and privileges, which hold the same labels and exemptions of each
-- policy that a statement mentions and that its tables mention, have one answer to it, and leave the same rows.
abbrev pub SessionsAlike : Type 0
SessionsAlike = (checks : Checks) (C : Cat) (c d : Cred) (T : Tables) (day : ℤ) (s : Stmt) → SameSession c d → Agrees (SameHolding C c d) (in_stmt s)
    → answer checks C c T day s ≡ answer checks C d T day s
