use Rattle.std.proofs.Common.{rules, ◌≡◌, ℕ, List, map, ◌∙◌, arith, w32}
use Rattle.std.proofs.lemmas.Int.{to_z-of_z}
use mir.Val.{to_z, of_z, SFits}
use Rattle.lb_wire.proofs.Causes.{Rose-after}
use Rattle.lb_split.specs.Scripts.{text_in}
use Rattle.lb_split.proofs.Mapped.{mapped_more, mapped_all}
use Rattle.lb_front.proofs.Sessions.{opens_at, not_begun, looping_first, looping_on, looping_cut, ended}
use Rattle.lb_front.proofs.section.run_session.Goals as goal

pub returns-in-Err-clause-cut : goal.returns-in-Err-clause-cut
returns-in-Err-clause-cut g c = not_begun _ _ _ _ _ _ _ c.in-Err.ensures.part

pub loop-span-init : goal.loop-span-init
loop-span-init g c = looping_first _ _ (map (text_in c.args.bytes.now) c.args.statements.now) _ _ _ _ _ c.requires.stands c.requires.session_of c.in-Ok.ensures.ok c.put_header.ensures.later

pub execute-answer-requires-clause-stands : goal.execute-answer-requires-clause-stands
execute-answer-requires-clause-stands g c = c.loop-span.invariant.stands

pub execute-answer-requires-clause-session_of : goal.execute-answer-requires-clause-session_of
execute-answer-requires-clause-session_of g c = c.loop-span.invariant.session_of

pub returns-in-Err-put_block-clause-cut : goal.returns-in-Err-put_block-clause-cut
returns-in-Err-put_block-clause-cut g c =
    let small : SFits w32 c.today-day.result = search rules in
    let same : to_z w32 (of_z w32 c.today-day.result) ≡ c.today-day.result = to_z-of_z w32 c.today-day.result small in
    let all : List (List ℕ) = map (text_in c.args.bytes.now) c.args.statements.now in
    let more = mapped_more (text_in c.args.bytes.now) c.args.statements.now c.loop-span.span-index (0, 0) c.text_at.result.now c.text_at.ensures c.loop-span-test.true in
    looping_cut _ _ c.execute-answer.new.self _ _ _ all c.loop-span.span-index _ _ _ _ _ _ _ _ _ _ _ c.loop-span.invariant more c.execute-answer.ensures.ran c.execute-answer.ensures.stands c.execute-answer.ensures.limit
    (rw same c.today-day.ensures.days) c.in-Err-put_block.ensures.part

pub returns-in-Err-put_block-clause-sessions : goal.returns-in-Err-put_block-clause-sessions
returns-in-Err-put_block-clause-sessions g c = c.execute-answer.ensures.sessions ∙ c.loop-span.invariant.same_sessions

pub returns-in-Err-put_block-clause-opens : goal.returns-in-Err-put_block-clause-opens
returns-in-Err-put_block-clause-opens g c = opens_at _ _ _ _ _ _ _ _ _ c.execute-answer.ensures.ran ∙ c.loop-span.invariant.same_opens

pub returns-in-Err-put_block-clause-limit : goal.returns-in-Err-put_block-clause-limit
returns-in-Err-put_block-clause-limit g c = c.execute-answer.ensures.limit ∙ c.loop-span.invariant.same_limit

pub returns-in-Err-put_block-clause-cause : goal.returns-in-Err-put_block-clause-cause
returns-in-Err-put_block-clause-cause g c = λ e. Rose-after _ _ _ c.loop-span.invariant.later (c.in-Err-put_block.ensures.cause e)

pub returns-in-Err-put_block-clause-later : goal.returns-in-Err-put_block-clause-later
returns-in-Err-put_block-clause-later g c = let h = c.loop-span.invariant.later in omega (arith, h, c.put_block.ensures.later)

pub loop-span-preserved : goal.loop-span-preserved
loop-span-preserved g c =
    let small : SFits w32 c.today-day.result = search rules in
    let same : to_z w32 (of_z w32 c.today-day.result) ≡ c.today-day.result = to_z-of_z w32 c.today-day.result small in
    let all : List (List ℕ) = map (text_in c.args.bytes.now) c.args.statements.now in
    let more = mapped_more (text_in c.args.bytes.now) c.args.statements.now c.loop-span.span-index (0, 0) c.text_at.result.now c.text_at.ensures c.loop-span-test.true in
    looping_on _ _ _ _ _ _ all c.loop-span.span-index _ _ _ _ _ _ _ _ _ _ _ _ c.loop-span.invariant more c.execute-answer.ensures.ran c.execute-answer.ensures.stands c.execute-answer.ensures.session_of c.execute-answer.ensures.limit c.execute-answer.ensures.sessions
    (rw same c.today-day.ensures.days) c.in-Ok-put_block.ensures.ok c.put_block.ensures.later

pub returns-clause-ran : goal.returns-clause-ran
returns-clause-ran g c = ended _ _ _ _ (map (text_in c.args.bytes.now) c.args.statements.now) _ _ _ _ c.loop-span.invariant (mapped_all (text_in c.args.bytes.now) c.args.statements.now c.loop-span.span-index c.loop-span-test.false)

pub returns-clause-stands : goal.returns-clause-stands
returns-clause-stands g c = c.loop-span.invariant.stands

pub returns-clause-sessions : goal.returns-clause-sessions
returns-clause-sessions g c = c.loop-span.invariant.same_sessions

pub returns-clause-opens : goal.returns-clause-opens
returns-clause-opens g c = c.loop-span.invariant.same_opens

pub returns-clause-limit : goal.returns-clause-limit
returns-clause-limit g c = c.loop-span.invariant.same_limit

pub returns-clause-later : goal.returns-clause-later
returns-clause-later g c = c.loop-span.invariant.later
