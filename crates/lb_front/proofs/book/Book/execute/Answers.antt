use Rattle.std.proofs.Common.{◌≡◌, rules, w32}
use Rattle.std.proofs.lemmas.Int.{to_z-of_z}
use mir.Val.{to_z, of_z, SFits}
use Rattle.lb_front.proofs.Committed.{unplaced_by, left_of, executed_left, executed_by}
use Rattle.lb_front.proofs.book.Book.execute.Goals as goal

pub returns-in-Err-clause-ran : goal.returns-in-Err-clause-ran
returns-in-Err-clause-ran c =
    let h = unplaced_by _ _ _ _ _ c.in-Err.stop c.unplaced-in-Err.result c.requires.stands c.in-Err.ensures.stopped c.unplaced-in-Err.ensures.place c.unplaced-in-Err.ensures.mark c.unplaced-in-Err.ensures.reply in
    executed_left _ _ _ _ _ _ _ _ c.unplaced-in-Err.ensures.place (left_of _ _ _ _ _ h)

pub returns-in-Ok-commit-clause-ran : goal.returns-in-Ok-commit-clause-ran
returns-in-Ok-commit-clause-ran c =
    let small : SFits w32 c.args.day = search rules in
    let same : to_z w32 (of_z w32 c.args.day) ≡ c.args.day = to_z-of_z w32 c.args.day small in
    executed_by _ _ _ _ _ _ _ c.args.day c.in-Ok.prepared c.in-Ok-commit.answer (rw same at c.in-Ok.ensures.ready) c.in-Ok.ensures.read c.in-Ok-commit.ensures.place c.in-Ok-commit.ensures.added

pub returns-in-Err-commit-clause-session_of : goal.returns-in-Err-commit-clause-session_of
returns-in-Err-commit-clause-session_of c = rw (c.in-Err-commit.ensures.err.0, c.in-Err-commit.ensures.err.2) c.requires.session_of
