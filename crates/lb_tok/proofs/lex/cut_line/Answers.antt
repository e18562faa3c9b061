use Rattle.std.proofs.Common.{lit<}
use Rattle.std.proofs.lemmas.Str.Pattern.{split_parts}
use Rattle.lb_tok.proofs.Gaps.{matched, without}
use Rattle.lb_tok.proofs.lex.cut_line.Goals as goal

pub returns : goal.returns
returns c = matched c.split_once.result (λ h. without 10 c.args.text.now h) (λ x h. (h.0, without 10 x.0.now h.1)) (split_parts 10 c.args.text.now c.split_once.result c.split_once.ensures.cases (lit< tt))
