use Rattle.std.proofs.Common.{◌≡◌, ◌∙◌, sym, ap, ◌≤◌, length, true, arith}
use Rattle.std.specs.Str.{bytes_eq}
use Rattle.lb_changed.proofs.Entries.{first_place, no_place}
use Rattle.lb_changed.proofs.lists.place_of.Goals as goal

pub returns-then-is : goal.returns-then-is
returns-then-is g c =
    let here : bytes_eq (g.E.Entry.of c.entry-item.result) c.args.name.now ≡ true = ap (λ n. bytes_eq n c.args.name.now) (sym c.of.ensures) ∙ sym c.is.ensures.tests ∙ c.if-is.true in
    c.loop-entry.invariant.0 ∙ sym (first_place (λ x. bytes_eq (g.E.Entry.of x) c.args.name.now) c.args.entries.now c.loop-entry.entry-index c.entry-item.result (omega arith)
    (λ k h. c.loop-entry.invariant.1 k c.entry-item.result h) (ap (λ x. bytes_eq (g.E.Entry.of x) c.args.name.now) (sym c.entry-item.is) ∙ here))

pub returns : goal.returns
returns g c =
    let ends : length c.args.entries.now ≤ c.loop-entry.entry-index = c.loop-entry-test.false in
    c.loop-entry.invariant.0 ∙ sym (no_place (λ x. bytes_eq (g.E.Entry.of x) c.args.name.now) c.args.entries.now c.loop-entry.entry-index c.loop-entry.auto.entry-index-end ends c.loop-entry.invariant.1)
