-- Where a journal is well made, its first entries are, and both what they leave and what more of them leave is sound.
use Rattle.std.proofs.Common.{ℕ, ◌+◌, ◌++◌, ◌≡◌, sym, subst, List, [], ◌∷◌, length}
use Rattle.std.proofs.lemmas.List.{append-nil, append_assoc}
use Rattle.lb_stmt.specs.declared.write.Stmt.{Stmt}
use Rattle.lb_cat.specs.declared.entry.Entry.{Entry}
use Rattle.lb_journal.specs.State.{State, first}
use Rattle.lb_journal.specs.Journal.{MadeFrom, IsMade}
use Rattle.lb_journal.specs.Replay.{Runs, Replay}
use Rattle.lb_journal.specs.Engine.{Meaning, Condition}
use Rattle.lb_journal.specs.Lasting.{RightLasts, WritesAgain}
use Rattle.lb_standing.specs.Standing.{IsStanding}
use Rattle.lb_standing.specs.Laws.{FirstIsStanding, StepsStayStanding}
use Rattle.lb_standing.specs.Lasting.{PlansLast, AnswersLast}
use Rattle.lb_standing.proofs.Steps.{runs_stand}

made_first : (H J K : List Entry) → MadeFrom H (J ++ K) → MadeFrom H J
made_first H [] K made = tt
made_first H (e ∷ J) K made = (made.0, made_first (H ++ e ∷ []) J K made.1)

made_more : (H J K : List Entry) → MadeFrom H (J ++ K) → MadeFrom (H ++ J) K
made_more H [] K made = subst (λ (X : List Entry). MadeFrom X K) (sym (append-nil H)) made
made_more H (e ∷ J) K made = subst (λ (X : List Entry). MadeFrom X K) (append_assoc H (e ∷ []) J) (made_more (H ++ e ∷ []) J K made.1)

module _ (begins : FirstIsStanding) (steps : StepsStayStanding) (J K : List Entry) (S T : State) (made : IsMade (J ++ K)) (replay : Replay J S) (runs : Runs (length J) S K T) where
  before : IsStanding S
  before = runs_stand steps [] 0 first J S (made_first [] J K made) replay begins

  later : IsStanding T
  later = runs_stand steps J (length J) S K T (made_more [] J K made) runs before

pub plans_last : {P : Type 0} (means : Meaning P) (takes : Condition P) → FirstIsStanding → StepsStayStanding → RightLasts means takes → PlansLast means takes
plans_last means takes begins steps lasts p s J K S T made replay runs same =
    lasts p s J K S T replay (before begins steps J K S T made replay runs).sound (later begins steps J K S T made replay runs).sound runs same

pub answers_last : FirstIsStanding → StepsStayStanding → WritesAgain → AnswersLast
answers_last begins steps again J K S T s user groups day made replay runs same =
    again J K S T s user groups day replay runs (before begins steps J K S T made replay runs).sound (later begins steps J K S T made replay runs).sound same
