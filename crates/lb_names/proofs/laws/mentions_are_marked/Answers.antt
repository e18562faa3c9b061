use Rattle.lb_names.proofs.Mentioning.{mentions_are_marked}
use Rattle.lb_names.proofs.laws.mentions_are_marked.Goals as goal

pub returns : goal.returns
returns c = mentions_are_marked
