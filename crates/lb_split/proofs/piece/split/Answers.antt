use Rattle.std.proofs.Common.{◌≡◌, ℕ, ◌+◌, length, sym, ap, ◌∙◌, arith}
use Rattle.std.specs.Prelude.{min}
use Rattle.lb_split.specs.Lexing.{statement_len}
use Rattle.lb_split.specs.Pieces.{pieces_from, first_of, resumed, before}
use Rattle.lb_split.proofs.Pieced.{found_step, found_within, first_before, blank_step, nothing_left}
use Rattle.lb_split.proofs.piece.split.Goals as goal

pub returns-in-Some-clause-others : goal.returns-in-Some-clause-others
returns-in-Some-clause-others c =
    c.blanks.invariant.same
    ∙ found_step c.args.bytes.now c.blanks.at c.tail-text.result.now c.in-Some.piece c.tail-text.ensures c.blanks-test.true c.in-Some.ensures

pub returns-in-Some-clause-first : goal.returns-in-Some-clause-first
returns-in-Some-clause-first c =
    let others : pieces_from c.args.bytes.now c.args.from ≡ before c.in-Some.piece (pieces_from c.args.bytes.now (resumed c.args.bytes.now c.in-Some.piece)) =
    c.blanks.invariant.same
    ∙ found_step c.args.bytes.now c.blanks.at c.tail-text.result.now c.in-Some.piece c.tail-text.ensures c.blanks-test.true c.in-Some.ensures in
    sym (ap first_of others ∙ first_before c.in-Some.piece (pieces_from c.args.bytes.now (resumed c.args.bytes.now c.in-Some.piece)))

pub returns-in-Some-clause-within : goal.returns-in-Some-clause-within
returns-in-Some-clause-within c =
    let found = found_within c.args.bytes.now c.blanks.at c.tail-text.result.now c.in-Some.piece c.tail-text.ensures c.blanks-test.true c.in-Some.ensures in
    found.1

pub returns-in-Some-clause-behind : goal.returns-in-Some-clause-behind
returns-in-Some-clause-behind c =
    let found = found_within c.args.bytes.now c.blanks.at c.tail-text.result.now c.in-Some.piece c.tail-text.ensures c.blanks-test.true c.in-Some.ensures in
    omega (arith, found.0, c.blanks.invariant.behind)

pub blanks-preserved : goal.blanks-preserved
blanks-preserved c =
    let end : c.min-at.result ≡ min (c.blanks.at + statement_len c.tail-text.result.now + 1) (length c.args.bytes.now) =
    c.min-at.ensures ∙ ap (λ (n : ℕ). min (c.blanks.at + n + 1) (length c.args.bytes.now)) c.statement_len.ensures.value in
    record {
      behind = omega (arith, end, c.requires.within, c.blanks.invariant.behind);
      within = omega (arith, end);
      same = c.blanks.invariant.same
          ∙ blank_step c.args.bytes.now c.blanks.at c.tail-text.result.now c.tail-text.ensures c.blanks-test.true c.in-None.ensures
          ∙ ap (pieces_from c.args.bytes.now) (sym end);
    }

pub returns-clause-others : goal.returns-clause-others
returns-clause-others c = c.blanks.invariant.same ∙ nothing_left c.args.bytes.now c.blanks.at c.blanks-test.false

pub returns-clause-first : goal.returns-clause-first
returns-clause-first c = sym (ap first_of (c.blanks.invariant.same ∙ nothing_left c.args.bytes.now c.blanks.at c.blanks-test.false))
