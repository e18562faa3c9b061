use Rattle.std.proofs.Common.{rules, arith}
use Rattle.lb_page.proofs.Doubled.{doubled_char}
use Rattle.lb_page.proofs.page.push_char.Goals as goal

pub returns-else-c-eq39 : goal.returns-else-c-eq39
returns-else-c-eq39 c = rw (doubled_char c.args.c (λ e. omega (arith, e))) (search rules)
