use Rattle.std.proofs.Common.{◌≡◌, ◌∙◌, sym, ap, List, [], ◌∷◌, ◌++◌, drop, length, ◌+◌, ◌<◌, ◌≤◌, ◌^◌, arith}
use Rattle.lb_base.specs.declared.value.Value.{Value}
use Rattle.lb_rows.proofs.Placed.{run_inside, run_on, none_left}
use Rattle.lb_rows.proofs.rows.RowsIterator.next.Goals as goal

pub overflow_add-self : goal.overflow_add-self
overflow_add-self c =
    let some : length c.rows_from-run.result.now ≡ length (c.in_ok-first-in-None.first.now ∷ c.in_ok-first-in-None.others.now) = ap length c.in_ok-first-in-None.ensures.cases.0 in
    let inside : c.self.inside.place + length c.rows_from-run.result.now ≤ length c.self.inside.version.now.rows = run_inside c.self.inside.version.now.rows c.rows_from-run.result.now c.self.inside.place c.rows_from-run.ensures (omega arith) in
    let count : c.len-count.result ≡ length c.self.inside.version.now.rows = c.len-count.ensures in
    let few : c.len-count.result < 2 ^ 32 = c.len-count.type_inv in
    omega arith

pub returns-in_ok-first-in-None-clause-steps : goal.returns-in_ok-first-in-None-clause-steps
returns-in_ok-first-in-None-clause-steps c =
    let none : c.self.inside.run.now ≡ [] = none_left c.self.inside.run.now c.in-None.ensures.cases in
    let rows : List (List Value) = c.self.inside.version.now.rows in
    sym c.self.view_is ∙ ap (λ (r : List (List Value)). r ++ drop c.self.inside.place rows) none
    ∙ sym (run_on rows c.rows_from-run.result.now c.self.inside.place c.rows_from-run.ensures)
    ∙ ap (λ (r : List (List Value)). r ++ drop (c.self.inside.place + length c.rows_from-run.result.now) rows) c.in_ok-first-in-None.ensures.cases.0
