use Rattle.lb_read.proofs.Trees.{apart}
use Rattle.lb_read.proofs.laws.canonical_texts_tell_statements_apart.Goals as goal

pub returns : goal.returns
returns c = apart
