use Rattle.std.proofs.Common.{rules, List, ℕ, ◌++◌, Some, ap, ◌∙◌, lit<}
use Rattle.std.specs.String.{string_bytes}
use Rattle.lb_tok.proofs.Gaps.{quoted_twice, quoted_last}
use Rattle.lb_tok.proofs.lex.quoted.Goals as goal

pub loop-piece-preserved : goal.loop-piece-preserved
loop-piece-preserved c = record {
  text = search rules;
  found = quoted_twice (string_bytes c.loop-piece.content) c.loop-piece.rest.now c.in-Some.piece.now c.in-Some.after.now c.in-Some-past_quote.more.now (string_bytes c.push_str.new.self) (string_bytes c.push.new.self) _
      c.in-Some.ensures.0 c.in-Some.ensures.1 c.in-Some-past_quote.ensures c.in_ok-push_str.ensures.bytes
      (c.in_ok-push-in-Some-past_quote.ensures.bytes ∙ ap (λ (u : List ℕ). string_bytes c.push_str.new.self ++ u) (c.push.ensures.ascii (lit< tt))) c.loop-piece.invariant.found;
}

pub returns-in-None : goal.returns-in-None
returns-in-None c = ap (λ (u : List ℕ). Some (u, c.in-Some.after.now)) c.from_string.ensures ∙ quoted_last (string_bytes c.loop-piece.content) c.loop-piece.rest.now c.in-Some.piece.now c.in-Some.after.now (string_bytes c.push_str.new.self) _
    c.in-Some.ensures.0 c.in-Some.ensures.1 c.in-None.ensures c.in_ok-push_str.ensures.bytes c.loop-piece.invariant.found
