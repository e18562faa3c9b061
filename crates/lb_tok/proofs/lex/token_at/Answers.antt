use Rattle.std.proofs.Common.{sym}
use Rattle.lb_tok.proofs.Scanned.{no_ascii_token}
use Rattle.lb_tok.proofs.lex.token_at.Goals as goal

pub returns-in-None : goal.returns-in-None
returns-in-None c = sym (no_ascii_token c.args.text.now c.in-None.ensures)
