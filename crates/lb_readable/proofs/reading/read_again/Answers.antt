use Rattle.std.proofs.Common.{refl, ◌∙◌}
use Rattle.lb_readable.proofs.Again.{read_again, wrong_again}
use Rattle.lb_readable.proofs.reading.read_again.Goals as goal

pub returns-in-Ok-clause-read : goal.returns-in-Ok-clause-read
returns-in-Ok-clause-read c =
    read_again c.args.stmt.now c.in-Ok.again c.as_bytes.result.now c.in_ok-text.text c.requires (c.as_bytes.ensures.value ∙ c.as_str.ensures) c.in_ok-text.ensures c.in-Ok.ensures.read

pub returns-in-Err-Syntax-clause-refused : goal.returns-in-Err-Syntax-clause-refused
returns-in-Err-Syntax-clause-refused c =
    (wrong_again c.args.stmt.now c.as_bytes.result.now c.in-Err-Syntax.field-0 c.in-Err-Syntax.field-0-0 c.requires (c.as_bytes.ensures.value ∙ c.as_str.ensures ∙ c.in_ok-text.ensures) c.as_bytes.ensures.utf8 c.in-Err-Syntax.field-0-is c.in-Err-Syntax.ensures.refused, refl)
