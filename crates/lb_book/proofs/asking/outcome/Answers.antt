use Rattle.std.proofs.Common.{◌≡◌, ap, subst, ◌∙◌, rules, w32}
use Rattle.std.proofs.lemmas.Int.{to_z-of_z}
use mir.Val.{to_z, of_z, SFits}
use Rattle.std.specs.Prelude.{IfOk}
use Rattle.lb_cat.specs.Stamps.{bare}
use Rattle.lb_cat.specs.declared.cred.Cred.{Cred}
use Rattle.lb_rows.specs.Stamped.{rows_only}
use Rattle.lb_alter.specs.Deps.{deps}
use Rattle.lb_alter.specs.Naming.{stored_rules}
use Rattle.lb_answer.specs.Answer.{Answered}
use Rattle.lb_journal.specs.Engine.{Gives}
use Rattle.lb_journal.specs.Rules.{answered_to}
use Rattle.lb_book.proofs.Growing.{is_sound, tables_fit}
use Rattle.lb_book.proofs.asking.outcome.Goals as goal

pub run-requires-clause-taken : goal.run-requires-clause-taken
run-requires-clause-taken g c =
    let C = bare c.args.over.catalog.now in
    let standing = c.replays_are_standing.ensures in
    let replayed = c.requires.replayed.1 in
    (c.right_plans_last.ensures.gives c.in_ok-plan.plan C c.args.stmt.now c.in_ok-cred.cred (rows_only c.args.over.tables.now) c.args.asking.day c.in_ok-plan.ensures.right
    (c.in_ok-cred.ensures.fits stored_rules (is_sound standing _ _ _ replayed) (deps C c.args.stmt.now)) (tables_fit standing _ _ _ replayed (deps C c.args.stmt.now)) c.requires.day).0

pub returns : goal.returns
returns g c =
    let C = bare c.args.over.catalog.now in
    let standing = c.replays_are_standing.ensures in
    let replayed = c.requires.replayed.1 in
    let T = rows_only c.args.over.tables.now in
    let same = (c.right_plans_last.ensures.gives c.in_ok-plan.plan C c.args.stmt.now c.in_ok-cred.cred T c.args.asking.day c.in_ok-plan.ensures.right
    (c.in_ok-cred.ensures.fits stored_rules (is_sound standing _ _ _ replayed) (deps C c.args.stmt.now)) (tables_fit standing _ _ _ replayed (deps C c.args.stmt.now)) c.requires.day).1 in
    let small : SFits w32 c.args.asking.day = search rules in
    let day : to_z w32 (of_z w32 c.args.asking.day) ≡ c.args.asking.day = to_z-of_z w32 c.args.asking.day small in
    subst (λ (a : Answered). IfOk c.run.result (λ o. Gives o a)) (same ∙ ap (λ (x : Cred). answered_to C x T c.args.asking.day c.args.stmt.now) c.in_ok-cred.ensures.read) (rw day at c.run.ensures.answer)
