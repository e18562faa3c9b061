use Rattle.std.proofs.Common.{arith, ◌-◌, ◌≤◌, ◌≡◌, length, drop, take, length-take, length-drop}
use Rattle.lb_wire.proofs.Told.{Appends-more_of_rest}
use Rattle.lb_wire.proofs.transfer.put_all.Goals as goal

pub loop-at-preserved : goal.loop-at-preserved
loop-at-preserved g c =
    let text = c.args.piece.now in
    let at = c.loop-at.at in
    let rest = take (length text - at) (drop at text) in
    let size : length rest ≡ length text - at = omega (arith, length-take (length text - at) (drop at text), length-drop at text) in
    let some : 1 ≤ c.in_ok-count.count = c.in_ok-count.ensures.some (omega (arith, size, c.loop-at-test.true)) in
    record {
      written = Appends-more_of_rest _ _ _ text at c.in_ok-count.count c.loop-at.invariant.written c.in_ok-count.ensures.bytes;
      within = omega (arith, c.in_ok-count.ensures.bound, size, c.loop-at-test.true);
      later = omega (arith, c.loop-at.invariant.later, c.in_ok-count.ensures.cause.later);
      none = λ e. absurd (omega (arith, e, some));
    }
