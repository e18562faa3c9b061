use Rattle.std.proofs.Common.{None}
use Rattle.lb_tok.proofs.Texts.{one_lexing}
use Rattle.lb_tok.proofs.laws.no_text_has_two_token_lists.Goals as goal

pub returns : goal.returns
returns c text ts us h k = (one_lexing ts us 0 text h.0 k.0 None None h.1 k.1).tokens
