-- Every statement keeps that what stands is sound and its tables fit, and so what a journal leaves is so.
use Rattle.std.proofs.Common.{ℕ, ◌+◌, ◌++◌, sym, subst, List, [], ◌∷◌}
use Rattle.lb_stmt.specs.declared.write.Stmt.TheVariants as stmts
use Rattle.lb_cat.specs.declared.entry.Entry.{Entry}
use Rattle.lb_cat.specs.declared.entry.Entry.TheVariants as entries
use Rattle.lb_alter.specs.Laws.{StaysSound, TablesStayFit}
use Rattle.lb_alter.specs.Steady.{IsSteady}
use Rattle.lb_spoken.specs.Laws.{ChangesAreAsRead, ChangesHaveDays}
use Rattle.lb_alter.specs.Naming.{stored_rules}
use Rattle.lb_journal.specs.State.{State, first}
use Rattle.lb_journal.specs.Journal.{Follows, MadeFrom}
use Rattle.lb_journal.specs.Replay.{Steps, Runs}
use Rattle.lb_standing.specs.Standing.{IsStanding}
use Rattle.lb_standing.specs.Laws.{ChangesStayStanding, FirstIsStanding, ReplaysAreStanding, StepsStayStanding, WritesStayStanding}
use Rattle.lb_standing.proofs.Kept.{Kept}
use Rattle.lb_standing.proofs.Changes.{changes_kept}

pub changes_stay : IsSteady stored_rules → StaysSound stored_rules → TablesStayFit stored_rules → ChangesAreAsRead → ChangesHaveDays → ChangesStayStanding
changes_stay steady sound fit read days c at S user groups day d spoken h =
    let k : Kept S.cat.tables S.tables = record { days = h.days; nowhere = h.nowhere; one_each = h.one_each } in
    let q = changes_kept S.cat S.tables k user c (days c spoken) in
    record {
      sound = sound steady S.cat S.tables user c (read c spoken) h.sound;
      tables = fit S.cat S.tables user c h.sound h.tables;
      days = q.days;
      nowhere = q.nowhere;
      one_each = q.one_each;
    }

pub steps_stay : WritesStayStanding → ChangesStayStanding → StepsStayStanding
steps_stay writes changes (stmts.Select s) at S user groups day d spoken h = writes (stmts.Select s) tt at S user groups day d spoken h
steps_stay writes changes (stmts.Insert i) at S user groups day d spoken h = writes (stmts.Insert i) tt at S user groups day d spoken h
steps_stay writes changes (stmts.Update u) at S user groups day d spoken h = writes (stmts.Update u) tt at S user groups day d spoken h
steps_stay writes changes (stmts.Delete x) at S user groups day d spoken h = writes (stmts.Delete x) tt at S user groups day d spoken h
steps_stay writes changes (stmts.Change c) at S user groups day d spoken h = changes c at S user groups day d spoken h

module _ (steps : StepsStayStanding) where
  entry_stands : (before : List Entry) (at : ℕ) (S : State) (e : Entry) (T : State) → Follows before e → Steps at S e T → IsStanding S → IsStanding T
  entry_stands before at S (entries.Open user groups) T made step h = subst IsStanding (sym step) h
  entry_stands before at S (entries.Said d) T made step h = subst IsStanding (sym step.2) (steps step.0 at S d.user d.groups d.day made.day step.1.0 h)

  pub runs_stand : (before : List Entry) (at : ℕ) (S : State) (es : List Entry) (T : State) → MadeFrom before es → Runs at S es T → IsStanding S → IsStanding T
  runs_stand before at S [] T made runs h = subst IsStanding (sym runs) h
  runs_stand before at S (e ∷ es) T made runs h = runs_stand (before ++ e ∷ []) (at + 1) runs.0 es T made.1 runs.2 (entry_stands before at S e runs.0 made.0 runs.1 h)

pub replays_stand : FirstIsStanding → StepsStayStanding → ReplaysAreStanding
replays_stand begins steps J S made replay = runs_stand steps [] 0 first J S made replay begins
