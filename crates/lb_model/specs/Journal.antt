-- The journal: one entry for each opening of a session and for each statement with a place, in one order.
use Rattle.std.specs.Prelude.{ℕ, zero, suc, ◌≡◌, ◌+◌, ◌==◌, Bool, true, false, List, [], ◌∷◌, ◌++◌, count_by, Option, None, Some, if◌then◌else◌}
use Rattle.lb_stmt.specs.declared.write.Stmt.{Stmt}
use Rattle.lb_tok.specs.Canonical.{canonical}
use Rattle.lb_tok.specs.Spelled.{IsSpoken}
use Rattle.lb_tok.specs.Syntax.{IsRepeatable}
use Rattle.lb_base.specs.Days.{IsDay}
use Rattle.lb_cat.specs.declared.entry.Said.{Said}
use Rattle.lb_cat.specs.declared.entry.Entry.{Entry}
use Rattle.lb_cat.specs.declared.entry.Entry.TheVariants as entries

-- the text is the canonical text of the statement, which some text spells
abbrev pub Speaks : List ℕ → Stmt → Type 0
Speaks text s = IsSpoken s × (canonical s ≡ text)

-- user and groups of the session's Open
abbrev pub opened_by : List Entry → ℕ → Option (List ℕ × List (List ℕ))
opened_by [] s = None
opened_by (entries.Open user groups ∷ es) zero = Some (user, groups)
opened_by (entries.Open user groups ∷ es) (suc s) = opened_by es s
opened_by (entries.Said d ∷ es) s = opened_by es s

abbrev pub is_open : Entry → Bool
is_open (entries.Open user groups) = true
is_open (entries.Said d) = false

-- the number of sessions opened
abbrev pub opens : List Entry → ℕ
opens J = count_by is_open J

abbrev pub is_said_by : ℕ → Entry → Bool
is_said_by s (entries.Open user groups) = false
is_said_by s (entries.Said d) = d.session == s

-- the number of statements of the session
abbrev pub said_by : List Entry → ℕ → ℕ
said_by J s = count_by (is_said_by s) J

-- What the entry of a statement owes to those before it: its text is the canonical text of a statement, is read as that statement, with all
-- that reading asks (at most 4,096 bytes, UTF-8, at most 64 brackets open at a time), and so can be read again; its day is one that a clock gives;
-- its session was opened before it by its user with its groups; and its number counts the session's statements before it.
pub record FollowsSaid (J : List Entry) (d : Said) : Type 0 where
  pub stmt : Stmt
  pub speaks : Speaks d.text stmt
  pub readable : IsRepeatable d.text stmt
  pub day : IsDay d.day
  pub opened : opened_by J d.session ≡ Some (d.user, d.groups)
  pub counted : d.number ≡ said_by J d.session

-- the entry may stand after these
abbrev pub Follows : List Entry → Entry → Type 0
Follows J (entries.Open user groups) = Unit {0}
Follows J (entries.Said d) = FollowsSaid J d

abbrev pub MadeFrom : List Entry → List Entry → Type 0
MadeFrom J [] = Unit {0}
MadeFrom J (e ∷ es) = Follows J e × MadeFrom (J ++ e ∷ []) es

-- a well-made journal: each entry follows those before it
abbrev pub IsMade : List Entry → Type 0
IsMade J = MadeFrom [] J

-- the statements of the session, each with its place, from that place on
abbrev pub mine_from : ℕ → ℕ → List Entry → List (ℕ × Said)
mine_from s at [] = []
mine_from s at (entries.Open user groups ∷ es) = mine_from s (at + 1) es
mine_from s at (entries.Said d ∷ es) = if d.session == s then (at, d) ∷ mine_from s (at + 1) es else mine_from s (at + 1) es

-- the session's entries in order
abbrev pub mine : List Entry → ℕ → List (ℕ × Said)
mine J s = mine_from s 0 J
