use Rattle.std.proofs.Common.{length, sym, ap, ◌∙◌}
use Rattle.std.proofs.lemmas.Result.{err_from_is_err_and}
use Rattle.lb_readt.specs.Readers.{got}
use Rattle.lb_readd.specs.Defining.{in_option, option_at, options_at, written}
use Rattle.lb_readd.proofs.Folded.{folds_begin, folds_on, folds_end, folds_out, folds_stop}
use Rattle.lb_readd.proofs.Flags.{flags, flags_none, flags_with}
use Rattle.lb_readd.proofs.table.column_options.Goals as goal

pub loop-init : goal.loop-init
unfolding options_at
loop-init c = folds_begin in_option option_at written c.args.tokens.now

pub returns-in_err-is_key : goal.returns-in_err-is_key
returns-in_err-is_key c =
    let p = err_from_is_err_and c.from_residual.result c.from_residual.ensures.1 in
    rw (p.1, p.2) (folds_stop c.in_err-is_key.field-0.0 in_option option_at (flags c.loop.written) (length c.args.tokens.now) c.loop.counter c.loop.rest.now _ c.loop-test.true (sym c.next_is_either.ensures ∙ c.if-next_is_either.true) c.in_err-is_key.ensures c.loop.invariant)

pub returns-else-next_is_either : goal.returns-else-next_is_either
returns-else-next_is_either c = folds_end in_option option_at (flags c.loop.written) (length c.args.tokens.now) c.loop.counter c.loop.rest.now _ c.loop-test.true (sym c.next_is_either.ensures ∙ c.if-next_is_either.false) c.loop.invariant ∙ ap (λ z. got z c.loop.rest.now) (flags_none c.loop.written)

pub loop-preserved : goal.loop-preserved
loop-preserved c = folds_on in_option option_at (flags c.loop.written) (flags c.with-written.result) (length c.args.tokens.now) c.loop.counter c.loop.rest.now c.in_ok-is_key.after.now c.in_ok-is_key.is_key _ c.loop-test.true (sym c.next_is_either.ensures ∙ c.if-next_is_either.true) c.in_ok-is_key.ensures (flags_with c.loop.written c.with-written.result c.in_ok-is_key.is_key c.with-written.ensures.not_null c.with-written.ensures.key) c.loop.invariant

pub returns : goal.returns
returns c = folds_out in_option option_at (flags c.loop.written) (length c.args.tokens.now) c.loop.counter c.loop.rest.now _ c.loop-test.false c.loop.invariant ∙ ap (λ z. got z c.loop.rest.now) (flags_none c.loop.written)
