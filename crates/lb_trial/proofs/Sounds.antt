-- What a statement that some text spells leaves is sound.
use Rattle.std.specs.Prelude.{ℕ, List}
use Rattle.lb_stmt.specs.declared.write.Stmt.{Stmt}
use Rattle.lb_stmt.specs.declared.write.Stmt.TheVariants as stmts
use Rattle.lb_tok.specs.Spelled.{IsSpoken}
use Rattle.lb_cat.specs.Stamps.{Kept}
use Rattle.lb_rows.specs.Tables.{Tables}
use Rattle.lb_changed.specs.declared.changed.Changed.{Changed as Made}
use Rattle.lb_spoken.specs.Laws.{ChangesAreAsRead}
use Rattle.lb_settled.specs.Statements.{LeavesOf}
use Rattle.lb_trial.specs.Trials.{IsSoundKept}

pub left_sound : ChangesAreAsRead → (K : Kept) (T : Tables) (user : List ℕ) (s : Stmt) (m : Made) → IsSpoken s → LeavesOf K T user s m → IsSoundKept m.catalog
left_sound read K T user (stmts.Change c) m spoken h = h.sound (read c spoken)
left_sound read K T user (stmts.Select q) m spoken h = absurd h
left_sound read K T user (stmts.Insert i) m spoken h = absurd h
left_sound read K T user (stmts.Update u) m spoken h = absurd h
left_sound read K T user (stmts.Delete d) m spoken h = absurd h
