-- A statement that is to be run, and why one is not.
use Rattle.std.specs.Prelude.{ℕ, ℤ, ◌≡◌, ◌<◌, ◌⊎◌, true, List, length}
use Rattle.lb_stmt.specs.declared.write.Stmt.{Stmt}
use Rattle.lb_tok.specs.declared.lex.ReadFault.{ReadFault}
use Rattle.lb_tok.specs.declared.lex.ReadFault.TheVariants as faults
use Rattle.lb_tok.specs.Canonical.{canonical}
use Rattle.lb_tok.specs.Syntax.{IsRepeatable, IsSyntaxAt}
use Rattle.lb_cat.specs.declared.entry.Entry.{Entry}
use Rattle.lb_cat.specs.declared.reply.Reply.{Reply}
use Rattle.lb_cat.specs.declared.reply.Reply.TheVariants as replies
use Rattle.lb_cat.specs.declared.refusal.Refusal.TheVariants as refusals
use Rattle.lb_model.specs.Answer.{is_query}
use Rattle.lb_model.specs.Step.{outcome}
use Rattle.lb_model.specs.NotYet.{IsUnbuilt, IsNotYet, IsBuilt, rows_given}
use Rattle.lb_refr.specs.Stored.{Stored}
use Rattle.lb_front.specs.declared.stop.Stop.{Stop}
use Rattle.lb_front.specs.declared.stop.Stop.TheVariants as stops
use Rattle.lb_front.specs.declared.book.Session.{Session}
use Rattle.lb_front.specs.declared.book.Prepared.{Prepared}

-- why a statement has no place whose text is refused so
abbrev pub stop_of : ReadFault → Stop
stop_of (faults.Syntax at) = stops.Syntax at
stop_of faults.NoMemory = stops.NoMemory

-- The statement can be read from its canonical text and is built, its rows are there, its entry is that of the session's next statement, and
-- there is room for it.
pub record IsReady (J : List Entry) (limit : ℕ) (stored : Stored) (session : Session) (day : ℤ) (p : Prepared) : Type 0 where
  pub again : IsRepeatable (canonical p.stmt) p.stmt
  pub built : IsUnbuilt stored.cat stored.tables session.user p.stmt → ⊥
  pub rows : p.rows ≡ rows_given p.stmt
  pub said : p.said ≡ record { session = session.number; number = session.said; user = session.user; groups = session.groups; day = day; text = canonical p.stmt }
  pub room : length J < limit

-- why the statement of the text is not run
abbrev pub IsStopped : List Entry → ℕ → Stored → List ℕ → List ℕ → Stop → Type 0
IsStopped J limit stored user text stops.NoMemory = Unit {0}
IsStopped J limit stored user text (stops.Syntax at) = IsSyntaxAt text at
IsStopped J limit stored user text stops.NotYet = (s : Stmt) × IsNotYet stored.cat stored.tables user text s
IsStopped J limit stored user text (stops.JournalFull n) = (n ≡ limit) × ((s : Stmt) × IsBuilt stored.cat stored.tables user text s) × (length J ≡ limit)

abbrev pub stop_reply : Stop → Reply
stop_reply stops.NoMemory = replies.NoMemory
stop_reply (stops.Syntax at) = replies.Refused (refusals.Syntax at)
stop_reply stops.NotYet = replies.Refused refusals.NotYet
stop_reply (stops.JournalFull n) = replies.Refused (refusals.JournalFull n)

-- the statement was run: what it leaves stands, and the reply is the reference's, or, of a query, NOMEMORY
pub record Did (old new : Stored) (user : List ℕ) (stmt : Stmt) (r : Reply) : Type 0 where
  pub cat : (groups : List (List ℕ)) (day : ℤ) → new.cat ≡ (outcome old.cat old.tables user groups day stmt).cat
  pub tables : (groups : List (List ℕ)) (day : ℤ) → new.tables ≡ (outcome old.cat old.tables user groups day stmt).tables
  pub reply : ((groups : List (List ℕ)) (day : ℤ) → r ≡ (outcome old.cat old.tables user groups day stmt).reply) ⊎ ((is_query stmt ≡ true) × (r ≡ replies.NoMemory))
