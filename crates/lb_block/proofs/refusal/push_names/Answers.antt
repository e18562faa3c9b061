use Rattle.std.proofs.Common.{◌≡◌, ◌++◌, string_bytes}
use Rattle.std.specs.Prelude.{codes}
use Rattle.lb_model.specs.Out.{joined_by}
use Rattle.lb_block.proofs.Joined.{parts_more, joined_and}
use Rattle.lb_block.proofs.refusal.push_names.Goals as goal

pub loop-place-preserved : goal.loop-place-preserved
loop-place-preserved c =
    let two : string_bytes c.push_str.new.self ≡ string_bytes c.push_separator.new.out ++ c.index-names-place.result = rw (← c.as_str.ensures.same) c.in_ok-push_str.ensures.bytes in
    parts_more (joined_by (codes ",")) (codes ",") (λ n. n) (joined_and (codes ",")) (string_bytes c.args.out.now) (string_bytes c.loop-place.out) (string_bytes c.push_separator.new.out) _ c.args.names.now c.loop-place.place c.index-names-place.result c.loop-place-test.true c.index-names-place.is c.loop-place.invariant c.in_ok-push_separator.ensures two
