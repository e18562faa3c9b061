use Rattle.std.proofs.Common.{◌<◌, subst, sym}
use Rattle.turn_tests.specs.Tape.{root}
use Rattle.turn_tests.proofs.three.three_sessions.Goals as goal

pub returns-clause-rooted : goal.returns-clause-rooted
returns-clause-rooted g c place lt =
    let whole = c.close.ensures.whole in
    let here = c.join_rooted-3.ensures.rooted place ((whole.own place).0 lt) in
    subst (λ tape. root tape place < 3) (sym whole.seen) here.1
