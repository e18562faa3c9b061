use Rattle.std.proofs.lemmas.Result.{err_from_is_err_and}
use Rattle.lb_readt.specs.Readers.{commas}
use Rattle.lb_readt.proofs.ListLoop.{listed_on, listed_stop}
use Rattle.lb_readt.proofs.list.listed.Goals as goal

pub returns-in_err-more : goal.returns-in_err-more
unfolding commas
returns-in_err-more g c = λ f reads.
    let p = err_from_is_err_and c.from_residual-in_err-more.result c.from_residual-in_err-more.ensures.1 in
    rw (p.1, p.2) (listed_stop f c.in_err-more.field-0.0 c.args.tokens.now c.in_ok-first.rest.now c.in_ok-first.first (reads _ _ c.in_ok-first.ensures) (c.in_err-more.ensures f reads))

pub returns : goal.returns
unfolding commas
returns g c = λ f reads. rw c.in_ok-with_first.ensures (listed_on f c.args.tokens.now c.in_ok-first.rest.now c.in_ok-first.first c.in_ok-more.more c.in_ok-more.rest.now (reads _ _ c.in_ok-first.ensures) (c.in_ok-more.ensures f reads))
