use Rattle.std.proofs.Common.{◌≡◌, ◌∙◌, ap, subst, drop, length, List, ◌-◌, ◌<◌, ◌≤◌}
use Rattle.std.specs.Arc.{arc_value}
use Rattle.lb_base.specs.declared.value.Value.{Value}
use Rattle.lb_rows.specs.Runs.{IsRun}
use Rattle.lb_rows.specs.Tables.{Version}
use Rattle.lb_rows.proofs.Placed.{run_in_front, run_in_last}
use Rattle.lb_rows.proofs.version.TableVersion.rows_from.Goals as goal

pub returns-then-place-front : goal.returns-then-place-front
returns-then-place-front c =
    let front : List (List Value) = arc_value c.self.inside.front in
    let last : List (List Value) = arc_value c.self.inside.last in
    let rows = ap (λ (v : Version). v.rows) c.self.view_is in
    let inside : c.args.place < length front = subst (λ n. c.args.place < n) (c.len-front.ensures ∙ ap length c.deref.ensures) c.if-place-front.true in
    let is = subst (λ (rs : List (List Value)). IsRun rs c.args.place c.run_from.result.now) (c.as_slice.ensures.rows ∙ c.deref-then-place-front.ensures) c.run_from.ensures in
    subst (λ (rs : List (List Value)). IsRun rs c.args.place c.run_from.result.now) rows (run_in_front front last c.run_from.result.now c.args.place inside is)

pub returns-else-place-front : goal.returns-else-place-front
returns-else-place-front c =
    let front : List (List Value) = arc_value c.self.inside.front in
    let last : List (List Value) = arc_value c.self.inside.last in
    let rows = ap (λ (v : Version). v.rows) c.self.view_is in
    let count : c.len-front.result ≡ length front = c.len-front.ensures ∙ ap length c.deref.ensures in
    let past : length front ≤ c.args.place = subst (λ n. n ≤ c.args.place) count c.if-place-front.false in
    let rest = c.rest_of.ensures ∙ ap (λ n. drop (c.args.place - n) c.as_slice-else-place-front.result.now) count ∙ ap (drop (c.args.place - length front)) (c.as_slice-else-place-front.ensures ∙ c.deref-else-place-front.ensures) in
    subst (λ (rs : List (List Value)). IsRun rs c.args.place c.rest_of.result.now) rows (run_in_last front last c.rest_of.result.now c.args.place c.self.invariant.0 past rest)
