use Rattle.std.proofs.Common.{subst, sym}
use Rattle.lb_turn.specs.Passes.{pass_of, seen_by}
use Rattle.turn_tests.specs.Tape.{AreRooted}
use Rattle.turn_tests.proofs.Tapes.{rooted_longer, rooted_both}
use Rattle.turn_tests.proofs.three.join_rooted.Goals as goal

pub returns-clause-rooted : goal.returns-clause-rooted
returns-clause-rooted c = subst (AreRooted (seen_by (pass_of c.join.new.chief))) (sym c.join.ensures.own)
    (rooted_both _ _ _ (rooted_longer _ _ _ c.join.ensures.chief_grows.seen c.requires.rooted) (rooted_longer _ _ _ c.join.ensures.pass_grows.seen c.requires.both))
