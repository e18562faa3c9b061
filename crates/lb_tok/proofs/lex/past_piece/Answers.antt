use Rattle.std.proofs.Common.{List, ℕ, length, sym, ap, ◌∙◌, arith}
use Rattle.lb_tok.proofs.Gaps.{past_blank, past_comment}
use Rattle.lb_tok.proofs.lex.past_piece.Goals as goal

pub returns-then-is_blank : goal.returns-then-is_blank
returns-then-is_blank c = (
  past_blank c.args.text.now c.in_ok-b.after.now c.in_ok-b.b c.in_ok-b.ensures.0 (sym c.is_blank.ensures ∙ c.if-is_blank.true),
  omega (arith, ap (λ (u : List ℕ). length u) c.in_ok-b.ensures.0),
)

pub returns-then-begins_comment : goal.returns-then-begins_comment
returns-then-begins_comment c = (
  past_comment c.args.text.now c.in_ok-b.after.now c.next_line.result.now c.in_ok-b.b c.in_ok-b.ensures.0 (sym c.is_blank.ensures ∙ c.if-is_blank.false) (sym c.begins_comment.ensures ∙ c.if-begins_comment.true) c.next_line.ensures.value,
  omega (arith, ap (λ (u : List ℕ). length u) c.in_ok-b.ensures.0, c.next_line.ensures.within),
)
