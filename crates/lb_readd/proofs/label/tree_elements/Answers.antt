use Rattle.std.proofs.Common.{of_calls}
use Rattle.lb_readt.specs.Readers.{commas}
use Rattle.lb_readd.specs.Defining.{tree_element_at}
use Rattle.lb_readd.proofs.label.tree_elements.Goals as goal

pub returns : goal.returns
unfolding commas
returns c = c.further.ensures tree_element_at (search of_calls)
