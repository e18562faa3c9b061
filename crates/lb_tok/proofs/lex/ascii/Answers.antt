use Rattle.std.proofs.Common.{◌≤◌, sym, ◌∙◌, arith}
use Rattle.std.proofs.lemmas.Bool.Decides.{nat_tests}
use Rattle.lb_tok.proofs.Gaps.{high_first}
use Rattle.lb_tok.proofs.lex.ascii.Goals as goal

pub returns-else-is_ascii : goal.returns-else-is_ascii
returns-else-is_ascii c b bs e =
    let le : 128 ≤ c.in-Some.c = grind (arith, nat_tests) in
    high_first c.args.text.now _ c.in-Some.c b bs (sym c.chars-chars.ensures.rest ∙ c.in-Some.ensures.steps.0) le e
