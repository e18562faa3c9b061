use Rattle.std.proofs.Common.{rules}
use Rattle.std.specs.Char.{is_ascii_digit}
use Rattle.lb_tok.proofs.Runs.{value_goes_on}
use Rattle.lb_tok.proofs.lex.digits.Goals as goal

pub loop-b-preserved : goal.loop-b-preserved
loop-b-preserved c = record {
  text = search rules;
  found = value_goes_on is_ascii_digit c.loop-b.value c.with_digit-value.result c.loop-b.rest.now c.args.text.now c.in-Some.after.now c.in-Some.b c.loop-b.invariant.found c.in-Some.ensures.0 c.in-Some.ensures.1 c.with_digit-value.ensures;
}
