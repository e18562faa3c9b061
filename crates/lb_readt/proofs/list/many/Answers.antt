use Rattle.std.proofs.Common.{length, sym, ◌∙◌}
use Rattle.std.proofs.lemmas.Result.{err_from_is_err_and}
use Rattle.lb_readt.specs.Readers.{many}
use Rattle.lb_readt.proofs.ListLoop.{turns_begin, turns_on, turns_end, turns_out, turns_stop}
use Rattle.lb_readt.proofs.list.many.Goals as goal

pub loop-init : goal.loop-init
loop-init g c = λ ks f tells reads. rw c.new-parts.ensures (turns_begin ks f c.args.tokens.now)

pub returns-in_err-part : goal.returns-in_err-part
returns-in_err-part g c = λ ks f tells reads.
    let p = err_from_is_err_and c.from_residual.result c.from_residual.ensures.1 in
    rw (p.1, p.2) (turns_stop c.in_err-part.field-0.0 ks f c.loop.parts (length c.args.tokens.now) c.loop.counter c.loop.rest.now (many ks f c.args.tokens.now) c.loop-test.true (sym (tells _ _ c.begins.ensures) ∙ c.if-begins.true) (reads _ _ c.in_err-part.ensures) (c.loop.invariant ks f tells reads))

pub returns-else-begins : goal.returns-else-begins
returns-else-begins g c = λ ks f tells reads. turns_end ks f c.loop.parts (length c.args.tokens.now) c.loop.counter c.loop.rest.now (many ks f c.args.tokens.now) c.loop-test.true (sym (tells _ _ c.begins.ensures) ∙ c.if-begins.false) (c.loop.invariant ks f tells reads)

pub loop-preserved : goal.loop-preserved
loop-preserved g c = λ ks f tells reads. rw c.in_ok-push.ensures.ok (turns_on ks f c.loop.parts (length c.args.tokens.now) c.loop.counter c.loop.rest.now c.in_ok-part.after.now c.in_ok-part.part (many ks f c.args.tokens.now) c.loop-test.true (sym (tells _ _ c.begins.ensures) ∙ c.if-begins.true) (reads _ _ c.in_ok-part.ensures) (c.loop.invariant ks f tells reads))

pub returns : goal.returns
returns g c = λ ks f tells reads. turns_out ks f c.loop.parts (length c.args.tokens.now) c.loop.counter c.loop.rest.now (many ks f c.args.tokens.now) c.loop-test.false (c.loop.invariant ks f tells reads)
