use Rattle.lb_tok.proofs.Texts.{paired}
use Rattle.lb_tok.proofs.lex.tokens.Goals as goal

pub returns-in_ok-scan-in-Ok-clause-paired : goal.returns-in_ok-scan-in-Ok-clause-paired
returns-in_ok-scan-in-Ok-clause-paired c = paired c.in_ok-scan-in-Ok.field-0.tokens 0 c.in-Ok.text.now c.in_ok-scan-in-Ok.field-0.spans c.in_ok-scan-in-Ok.field-0.stop c.in_ok-scan-in-Ok.ensures.0
