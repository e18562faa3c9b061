-- What a session is told: one answer for each of its statements, each right by the journal.
use Rattle.std.specs.Prelude.{ℕ, zero, suc, ℤ, ◌≡◌, ◌⊎◌, ◌+◌, ◌≤◌, Bool, true, false, List, [], ◌∷◌, take, length, slice_get, Option, None, Some}
use Rattle.lb_stmt.specs.declared.write.Stmt.{Stmt}
use Rattle.lb_tok.specs.Canonical.{canonical}
use Rattle.lb_tok.specs.Syntax.{IsRepeatable, IsSyntaxAt}
use Rattle.lb_cat.specs.declared.entry.Said.{Said}
use Rattle.lb_cat.specs.declared.entry.Entry.{Entry}
use Rattle.lb_cat.specs.declared.entry.Entry.TheVariants as entries
use Rattle.lb_cat.specs.declared.answer.Answer.{Answer}
use Rattle.lb_cat.specs.declared.answer.Mark.{Mark}
use Rattle.lb_cat.specs.declared.answer.Mark.TheVariants as marks
use Rattle.lb_cat.specs.declared.reply.Reply.{Reply}
use Rattle.lb_cat.specs.declared.reply.Reply.TheVariants as replies
use Rattle.lb_cat.specs.declared.refusal.Refusal.TheVariants as refusals
use Rattle.lb_model.specs.Answer.{is_query, is_change}
use Rattle.lb_model.specs.Step.{State}
use Rattle.lb_model.specs.Replay.{Replay, Rep}
use Rattle.lb_model.specs.NotYet.{IsNotYet, IsBuilt}

-- a query or a write is marked as compiled, a change has no mark
abbrev pub mark_if : Bool → Mark
mark_if true = marks.Dash
mark_if false = marks.Compiled

abbrev pub mark_of : Stmt → Mark
mark_of s = mark_if (is_change s)

-- Of a statement that ran: its entry is the session's next one, at the answer's place, with its canonical text and its day;
-- it is built where the entries before that place stand; and the reply is that of the place, or, of a query, NOMEMORY.
pub record Placed (J : List Entry) (user text : List ℕ) (day : ℤ) (next : ℕ × Said) (a : Answer) : Type 0 where
  pub place : a.place ≡ Some next.0
  pub there : slice_get J next.0 ≡ Some (entries.Said next.1)
  pub stmt : Stmt
  pub state : State
  pub before : Replay (take next.0 J) state
  pub built : IsBuilt state.cat state.tables user text stmt
  pub said : next.1.text ≡ canonical stmt
  pub today : next.1.day ≡ day
  pub mark : a.mark ≡ mark_of stmt
  pub reply : Rep J next.0 a.reply ⊎ ((is_query stmt ≡ true) × (a.reply ≡ replies.NoMemory))

-- Why a statement has no place: memory was refused; or its text is refused at a byte; or it is not built yet where the first `at` entries
-- stand; or it is built there, and the journal has as many entries as it may have.
abbrev pub IsUnplaced : List Entry → ℕ → ℕ → State → List ℕ → List ℕ → Reply → Type 0
IsUnplaced J limit at S user text reply =
    (reply ≡ replies.NoMemory)
    ⊎ ((byte : ℕ) × (reply ≡ replies.Refused (refusals.Syntax byte)) × IsSyntaxAt text byte)
    ⊎ ((reply ≡ replies.Refused refusals.NotYet) × ((s : Stmt) × IsNotYet S.cat S.tables user text s))
    ⊎ ((reply ≡ replies.Refused (refusals.JournalFull limit)) × ((s : Stmt) × IsBuilt S.cat S.tables user text s) × (at ≡ limit) × (length J ≡ limit))

pub record Unplaced (J : List Entry) (limit at : ℕ) (user text : List ℕ) (a : Answer) : Type 0 where
  pub place : a.place ≡ None
  pub mark : a.mark ≡ marks.Dash
  pub within : at ≤ length J
  pub state : State
  pub before : Replay (take at J) state
  pub cause : IsUnplaced J limit at state user text a.reply

-- The answers to these texts, given on these days: `at` entries stand before the first of them, and of the session's entries
-- those in `next` are still to come. Each answer is of the session's next entry, or has no place; in the end none is left.
abbrev pub Told : List Entry → ℕ → List ℕ → ℕ → List (ℕ × Said) → List (List ℕ) → List ℤ → List Answer → Type 0
Told J limit user at next [] [] [] = next ≡ []
Told J limit user at [] (text ∷ texts) (day ∷ days) (a ∷ answers) =
    Unplaced J limit at user text a × Told J limit user at [] texts days answers
Told J limit user at (e ∷ next) (text ∷ texts) (day ∷ days) (a ∷ answers) =
    (Unplaced J limit at user text a × Told J limit user at (e ∷ next) texts days answers)
    ⊎ (Placed J user text day e a × Told J limit user (e.0 + 1) next texts days answers)
Told J limit user at next _ _ _ = ⊥

abbrev pub places_and : Option ℕ → List ℕ → List ℕ
places_and None ps = ps
places_and (Some p) ps = p ∷ ps

-- the places that answers show, in order
abbrev pub places : List Answer → List ℕ
places [] = []
places (a ∷ answers) = places_and a.place (places answers)

-- n numbers from one on
abbrev pub count_from : ℕ → ℕ → List ℕ
count_from at zero = []
count_from at (suc n) = at ∷ count_from (at + 1) n
