-- What lasts in a well-made journal as long as no stamp of what a statement depends on moves.
use Rattle.std.specs.Prelude.{ℕ, ℤ, ◌≡◌, ◌↔◌, ◌++◌, List, length}
use Rattle.lb_stmt.specs.declared.write.Stmt.{Stmt}
use Rattle.lb_cat.specs.declared.entry.Entry.{Entry}
use Rattle.lb_cat.specs.Credentials.{cred}
use Rattle.lb_alter.specs.Deps.{deps, write_deps}
use Rattle.lb_journal.specs.Rules.{answered_to}
use Rattle.lb_journal.specs.State.{State}
use Rattle.lb_journal.specs.Journal.{IsMade}
use Rattle.lb_journal.specs.Replay.{Runs, Replay}
use Rattle.lb_journal.specs.Engine.{Meaning, Condition, RightFor}
use Rattle.lb_journal.specs.Lasting.{SameStamps}

-- In a well-made journal, a plan is right for a statement where some first entries stand exactly where it is right where more of them stand, if
-- no stamp of what the statement depends on has moved.
abbrev pub PlansLast : {P : Type 0} → Meaning P → Condition P → Type 0
PlansLast {P = P} means takes =
    (p : P) (s : Stmt) (J K : List Entry) (S T : State)
    → IsMade (J ++ K) → Replay J S → Runs (length J) S K T → SameStamps (deps S.cat s) S T → RightFor means takes p S.cat s ↔ RightFor means takes p T.cat s

-- In a well-made journal, a write of a user with these groups, on that day, has one answer where some first entries stand and where more of them
-- stand, and leaves the same rows of its target, if no stamp of what its commit depends on has moved. So it is of a query.
abbrev pub AnswersLast : Type 0
AnswersLast =
    (J K : List Entry) (S T : State) (s : Stmt) (user : List ℕ) (groups : List (List ℕ)) (day : ℤ)
    → IsMade (J ++ K) → Replay J S → Runs (length J) S K T → SameStamps (write_deps S.cat s user) S T
    → answered_to S.cat (cred S.cat user groups) S.tables day s ≡ answered_to T.cat (cred T.cat user groups) T.tables day s
