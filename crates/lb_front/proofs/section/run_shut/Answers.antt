use Rattle.std.proofs.Common.{ℕ, List, map, arith}
use Rattle.lb_wire.proofs.Causes.{Rose-after}
use Rattle.lb_split.specs.Scripts.{text_in}
use Rattle.lb_split.proofs.Mapped.{mapped_more, mapped_all}
use Rattle.lb_front.proofs.Shut.{shut_first, shut_not_begun, shut_on, shut_cut, shut_ended}
use Rattle.lb_front.proofs.section.run_shut.Goals as goal

pub returns-in-Err-clause-cut : goal.returns-in-Err-clause-cut
returns-in-Err-clause-cut g c = shut_not_begun _ _ _ _ c.in-Err.ensures.part

pub loop-span-init : goal.loop-span-init
loop-span-init g c = shut_first _ (map (text_in c.args.bytes.now) c.args.statements.now) _ _ _ _ c.in-Ok.ensures.ok c.put_full.ensures.later

pub returns-in-Err-put_block-clause-cut : goal.returns-in-Err-put_block-clause-cut
returns-in-Err-put_block-clause-cut g c =
    let all : List (List ℕ) = map (text_in c.args.bytes.now) c.args.statements.now in
    let more = mapped_more (text_in c.args.bytes.now) c.args.statements.now c.loop-span.span-index (0, 0) c.text_at.result.now c.text_at.ensures c.loop-span-test.true in
    shut_cut _ all c.loop-span.span-index _ _ _ _ _ _ _ c.loop-span.invariant more c.shut-answer.ensures c.in-Err-put_block.ensures.part

pub returns-in-Err-put_block-clause-cause : goal.returns-in-Err-put_block-clause-cause
returns-in-Err-put_block-clause-cause g c = λ e. Rose-after _ _ _ c.loop-span.invariant.later (c.in-Err-put_block.ensures.cause e)

pub returns-in-Err-put_block-clause-later : goal.returns-in-Err-put_block-clause-later
returns-in-Err-put_block-clause-later g c = let h = c.loop-span.invariant.later in omega (arith, h, c.put_block.ensures.later)

pub loop-span-preserved : goal.loop-span-preserved
loop-span-preserved g c =
    let all : List (List ℕ) = map (text_in c.args.bytes.now) c.args.statements.now in
    let more = mapped_more (text_in c.args.bytes.now) c.args.statements.now c.loop-span.span-index (0, 0) c.text_at.result.now c.text_at.ensures c.loop-span-test.true in
    shut_on _ all c.loop-span.span-index _ _ _ _ _ _ _ _ c.loop-span.invariant more c.shut-answer.ensures c.in-Ok-put_block.ensures.ok c.put_block.ensures.later

pub returns-clause-ran : goal.returns-clause-ran
returns-clause-ran g c = shut_ended _ (map (text_in c.args.bytes.now) c.args.statements.now) _ _ _ _ _ c.loop-span.invariant (mapped_all (text_in c.args.bytes.now) c.args.statements.now c.loop-span.span-index c.loop-span-test.false)

pub returns-clause-later : goal.returns-clause-later
returns-clause-later g c = c.loop-span.invariant.later
