-- What a session is told: one answer for each of its statements, each right by the journal.
use Rattle.std.specs.Prelude.{ℕ, ℤ, ◌≡◌, ◌⊎◌, ◌+◌, ◌≤◌, Bool, true, false, List, [], ◌∷◌, take, length, slice_get, None, Some}
use Rattle.lb_stmt.specs.declared.write.Stmt.{Stmt}
use Rattle.lb_stmt.specs.declared.write.Stmt.TheVariants as stmts
use Rattle.lb_tok.specs.Canonical.{canonical}
use Rattle.lb_tok.specs.Syntax.{IsRepeatable, IsSyntaxAt}
use Rattle.lb_cat.specs.Catalog.{Cat}
use Rattle.lb_cat.specs.declared.refusal.Refusal.TheVariants as refusals
use Rattle.lb_cat.specs.declared.reply.Reply.TheVariants as replies
use Rattle.lb_cat.specs.declared.entry.Entry.{Entry}
use Rattle.lb_cat.specs.declared.entry.Entry.TheVariants as entries
use Rattle.lb_cat.specs.declared.answer.Answer.{Answer}
use Rattle.lb_cat.specs.declared.answer.Mark.{Mark}
use Rattle.lb_cat.specs.declared.answer.Mark.TheVariants as marks
use Rattle.lb_journal.specs.Journal.{Placed}
use Rattle.lb_journal.specs.State.{State}
use Rattle.lb_journal.specs.Replay.{Replay, Rep}

-- SELECT
abbrev pub is_query : Stmt → Bool
is_query (stmts.Select s) = true
is_query s = false

-- a statement that changes the catalogue
abbrev pub is_change : Stmt → Bool
is_change (stmts.Change c) = true
is_change s = false

-- a statement of a session: its text, and the day that the clock gave for it
pub record Asked : Type 0 where
  pub text : List ℕ
  pub day : ℤ

-- a change has no plan, and so no mark; the answer to a query or a write has the mark of its plan
abbrev pub HasMark : Stmt → Mark → Type 0
HasMark s m = (is_change s ≡ true → m ≡ marks.Dash) × (is_change s ≡ false → (m ≡ marks.Dash → ⊥))

-- Told of one journal that has a limit, where `built` says which statements can be run. (It is of the catalogue and the statement, and
-- goes when all are.)
module _ (built : Cat → Stmt → Bool) (J : List Entry) (limit : ℕ) where
  -- The statement was run: this is the entry of its session, at the place that the answer shows, with its canonical text and its day;
  -- and the reply is the one of that place, or, of a query, out of memory.
  pub record IsRun (asked : Asked) (e : Placed) (a : Answer) : Type 0 where
    pub place : a.place ≡ Some e.place
    pub there : slice_get J e.place ≡ Some (entries.Said e.said)
    pub stmt : Stmt
    pub reads : IsRepeatable asked.text stmt
    pub said : e.said.text ≡ canonical stmt
    pub today : e.said.day ≡ asked.day
    pub state : State
    pub before : Replay (take e.place J) state
    pub runs : built state.cat stmt ≡ true
    pub mark : HasMark stmt a.mark
    pub reply : Rep J e.place a.reply ⊎ ((is_query stmt ≡ true) × (a.reply ≡ replies.NoMemory))

  -- the text is refused at a byte
  abbrev pub IsUnread : Asked → Answer → Type 0
  IsUnread asked a = (byte : ℕ) × (a.reply ≡ replies.Refused (refusals.Syntax byte)) × IsSyntaxAt asked.text byte

  -- no place of the session lies between
  abbrev pub IsBefore : ℕ → List Placed → Type 0
  IsBefore k [] = k ≤ length J
  IsBefore k (e ∷ next) = k ≤ e.place

  -- The statement can be read, and could not be run in the catalogue that some first entries leave, which are those before it: at least all up to
  -- the session's last entry, and none from its next one on.
  pub record IsNotYet (from : ℕ) (next : List Placed) (asked : Asked) (a : Answer) : Type 0 where
    pub reply : a.reply ≡ replies.Refused refusals.NotYet
    pub stmt : Stmt
    pub reads : IsRepeatable asked.text stmt
    pub entries : ℕ
    pub later : from ≤ entries
    pub earlier : IsBefore entries next
    pub state : State
    pub before : Replay (take entries J) state
    pub unbuilt : built state.cat stmt ≡ false

  -- the statement can be read and run, the journal has as many entries as it may have, and none of the session's entries is still to come
  pub record IsFull (next : List Placed) (asked : Asked) (a : Answer) : Type 0 where
    pub reply : a.reply ≡ replies.Refused (refusals.JournalFull limit)
    pub many : length J ≡ limit
    pub last : next ≡ []
    pub stmt : Stmt
    pub reads : IsRepeatable asked.text stmt
    pub state : State
    pub whole : Replay J state
    pub runs : built state.cat stmt ≡ true

  -- Why a statement was not run, after the first entries and before these of the session: it is out of memory, or one of the three.
  abbrev pub HasCause : ℕ → List Placed → Asked → Answer → Type 0
  HasCause from next asked a = (a.reply ≡ replies.NoMemory) ⊎ IsUnread asked a ⊎ IsNotYet from next asked a ⊎ IsFull next asked a

  -- the statement was not run: its answer shows no place and no mark
  pub record IsNotRun (from : ℕ) (next : List Placed) (asked : Asked) (a : Answer) : Type 0 where
    pub place : a.place ≡ None
    pub mark : a.mark ≡ marks.Dash
    pub cause : HasCause from next asked a

  -- The answers to these statements, where so many entries stand up to the session's last one, and these of the session are still to come. Each
  -- statement was run, and then the next entry is its, or was not run; in the end no entry is left.
  abbrev pub Told : ℕ → List Placed → List Asked → List Answer → Type 0
  Told from next [] [] = next ≡ []
  Told from [] (q ∷ qs) (a ∷ answers) = IsNotRun from [] q a × Told from [] qs answers
  Told from (e ∷ next) (q ∷ qs) (a ∷ answers) = (IsNotRun from (e ∷ next) q a × Told from (e ∷ next) qs answers) ⊎ (IsRun q e a × Told (e.place + 1) next qs answers)
  Told from next _ _ = ⊥
