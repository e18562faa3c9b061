use Rattle.std.proofs.Common.{List, map, string_bytes}
use Rattle.std.specs.Prelude.{codes}
use Rattle.lb_base.specs.declared.value.Value.{Value}
use Rattle.lb_model.specs.Out.{joined_by, value_text}
use Rattle.lb_block.proofs.Joined.{parts_more, mapped_and}
use Rattle.lb_block.proofs.row.push_values.Goals as goal

pub loop-place-preserved : goal.loop-place-preserved
loop-place-preserved c =
    parts_more (λ (vs : List Value). joined_by (codes ", ") (map value_text vs)) (codes ", ") value_text (mapped_and (codes ", ") value_text) (string_bytes c.args.out.now) (string_bytes c.loop-place.out) (string_bytes c.push_separator.new.out) _ c.args.row.now c.loop-place.place c.index-row-place.result c.loop-place-test.true c.index-row-place.is c.loop-place.invariant c.in_ok-push_separator.ensures c.in_ok-push_value.ensures
