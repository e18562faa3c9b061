-- Journals of the whole language have one meaning.
use Rattle.std.specs.Prelude.{◌≡◌, ℕ, List}
use Rattle.lb_cat.specs.declared.entry.Entry.{Entry}
use Rattle.lb_cat.specs.declared.reply.Reply.{Reply}
use Rattle.lb_journal.specs.State.{State}
use Rattle.lb_journal.specs.Replay.{Replay, Rep}

-- a journal leaves at most one state
abbrev pub OneState : Type 0
OneState = (J : List Entry) (S T : State) → Replay J S → Replay J T → S ≡ T

-- a place of a journal has at most one reply
abbrev pub OneReply : Type 0
OneReply = (J : List Entry) (k : ℕ) (r q : Reply) → Rep J k r → Rep J k q → r ≡ q
