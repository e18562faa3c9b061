use Rattle.std.proofs.Common.{◌∷◌, [], length, sym, ap, ◌∙◌}
use Rattle.std.proofs.lemmas.Result.{err_from_is_err_and}
use Rattle.lb_tok.specs.declared.kind.Kind.TheVariants as kinds
use Rattle.lb_tok.specs.Kinds.{only}
use Rattle.lb_readt.specs.Readers.{got, after, many, commas}
use Rattle.lb_readd.specs.Defining.{piece_at, parts_from, parts_on}
use Rattle.lb_readd.specs.Pieces.{all_parts, piece_of}
use Rattle.lb_readt.proofs.ListLoop.{word_on, word_stop}
use Rattle.lb_readd.proofs.Folded.{same_value, folds_begin, folds_on, folds_end, folds_out, folds_stop}
use Rattle.lb_readd.proofs.parts.pieces.Goals as goal

pub loop-init : goal.loop-init
unfolding parts_on commas
loop-init c = folds_begin (only kinds.Comma) (after kinds.Comma piece_at) (all_parts c.in_ok-parts.parts) c.args.tokens.now ∙ same_value (all_parts c.in_ok-parts.parts) (parts_from c.args.component (c.args.element ∷ [])) (many (only kinds.Comma) (after kinds.Comma piece_at) c.args.tokens.now) c.in_ok-parts.ensures

pub returns-in_err-piece : goal.returns-in_err-piece
returns-in_err-piece c =
    let p = err_from_is_err_and c.from_residual-in_err-piece.result c.from_residual-in_err-piece.ensures.1 in
    rw (p.1, p.2) (folds_stop c.in_err-piece.field-0.0 (only kinds.Comma) (after kinds.Comma piece_at) (all_parts c.loop.parts) (length c.args.tokens.now) c.loop.counter c.loop.rest.now _ c.loop-test.true (sym c.next_is.ensures ∙ c.if-next_is.true) (word_stop kinds.Comma piece_at c.in_err-piece.field-0.0 c.loop.rest.now c.in_ok-after.after.now c.in_ok-after.ensures c.in_err-piece.ensures) c.loop.invariant)

pub loop-preserved : goal.loop-preserved
loop-preserved c = folds_on (only kinds.Comma) (after kinds.Comma piece_at) (all_parts c.loop.parts) (all_parts c.in_ok-next.next) (length c.args.tokens.now) c.loop.counter c.loop.rest.now c.in_ok-piece.after.now (piece_of c.in_ok-piece.piece) _ c.loop-test.true (sym c.next_is.ensures ∙ c.if-next_is.true) (word_on kinds.Comma piece_at c.loop.rest.now c.in_ok-after.after.now (piece_of c.in_ok-piece.piece) c.in_ok-piece.after.now c.in_ok-after.ensures c.in_ok-piece.ensures) (λ ps. sym (c.in_ok-next.ensures ps)) c.loop.invariant

pub returns-else-next_is : goal.returns-else-next_is
returns-else-next_is c = folds_end (only kinds.Comma) (after kinds.Comma piece_at) (all_parts c.loop.parts) (length c.args.tokens.now) c.loop.counter c.loop.rest.now _ c.loop-test.true (sym c.next_is.ensures ∙ c.if-next_is.false) c.loop.invariant ∙ ap (λ z. got z c.loop.rest.now) (sym c.in_ok-all.ensures)

pub returns : goal.returns
returns c = folds_out (only kinds.Comma) (after kinds.Comma piece_at) (all_parts c.loop.parts) (length c.args.tokens.now) c.loop.counter c.loop.rest.now _ c.loop-test.false c.loop.invariant ∙ ap (λ z. got z c.loop.rest.now) (sym c.in_ok-all-2.ensures)
