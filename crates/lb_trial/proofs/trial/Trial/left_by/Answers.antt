use Rattle.lb_rows.specs.Stamped.{rows_only}
use Rattle.lb_trial.proofs.Sounds.{left_sound}
use Rattle.lb_trial.proofs.trial.Trial.left_by.Goals as goal

pub returns-in_ok-changed-in-Change : goal.returns-in_ok-changed-in-Change
returns-in_ok-changed-in-Change c =
    record { sound = left_sound c.spoken_changes_are_as_read.ensures c.args.self.now.catalog (rows_only c.args.self.now.tables) c.args.said.now.user c.args.stmt.now c.in_ok-changed-in-Change.changed c.requires.spoken c.in_ok-changed-in-Change.ensures.left }
