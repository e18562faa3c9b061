use Rattle.std.proofs.Common.{ℕ, List, map, arith}
use Rattle.lb_split.specs.Scripts.{text_in}
use Rattle.lb_split.proofs.Mapped.{mapped_more}
use Rattle.lbac_canonical.proofs.Lined.{printed_more, printed_cut}
use Rattle.lbac_canonical.proofs.script.put_lines.Goals as goal

pub returns-in-Err-clause-part : goal.returns-in-Err-clause-part
returns-in-Err-clause-part g c =
    let all : List (List ℕ) = map (text_in c.args.script.now) c.args.spans.now in
    let more = mapped_more (text_in c.args.script.now) c.args.spans.now c.loop-span.span-index (0, 0) c.text_at.result.now c.text_at.ensures c.loop-span-test.true in
    printed_cut _ _ _ all c.loop-span.span-index c.text_at.result.now c.loop-span.invariant.lines more c.in-Err.ensures.part

pub loop-span-preserved : goal.loop-span-preserved
loop-span-preserved g c =
    let all : List (List ℕ) = map (text_in c.args.script.now) c.args.spans.now in
    let more = mapped_more (text_in c.args.script.now) c.args.spans.now c.loop-span.span-index (0, 0) c.text_at.result.now c.text_at.ensures c.loop-span-test.true in
    record {
      lines = printed_more _ _ _ all c.loop-span.span-index c.text_at.result.now c.loop-span.invariant.lines more c.in-Ok.ensures.ok;
      later = let h = c.loop-span.invariant.later in omega (arith, h, c.put_line.ensures.later);
    }
