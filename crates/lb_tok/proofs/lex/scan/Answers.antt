use Rattle.std.proofs.Common.{List, ℕ, length, refl, sym, ap, arith}
use Rattle.lb_tok.proofs.Texts.{rest_fits, after_shorter, gap_shorter, all_found, is_nothing}
use Rattle.lb_tok.proofs.lex.scan.Goals as goal

pub overflow_sub-from : goal.overflow_sub-from
overflow_sub-from c = rest_fits _ _ _ _ c.loop-rest.invariant.found

pub overflow_sub-to : goal.overflow_sub-to
overflow_sub-to c =
    let found = rw c.in-Some.is at c.in_ok-token_at.ensures in
    omega (arith, after_shorter c.args.text.now c.loop-rest.tokens c.loop-rest.spans c.loop-rest.rest.now c.in-Some.token c.in-Some.after.now c.loop-rest.invariant.found (sym found), rest_fits c.args.text.now c.loop-rest.tokens c.loop-rest.spans c.loop-rest.rest.now c.loop-rest.invariant.found)

pub loop-rest-smaller : goal.loop-rest-smaller
loop-rest-smaller c =
    let found = rw c.in-Some.is at c.in_ok-token_at.ensures in
    let less = after_shorter c.args.text.now c.loop-rest.tokens c.loop-rest.spans c.loop-rest.rest.now c.in-Some.token c.in-Some.after.now c.loop-rest.invariant.found (sym found) in
    omega (arith, less, gap_shorter c.in-Some.after.now, ap (λ (u : List ℕ). length u) c.after_gap-rest-in-Some.ensures)

pub returns : goal.returns
returns c = (all_found c.args.text.now c.loop-rest.tokens c.loop-rest.spans c.loop-rest.rest.now c.loop-rest.invariant.found (is_nothing c.loop-rest.rest.now c.loop-rest-test.ensures), refl)
