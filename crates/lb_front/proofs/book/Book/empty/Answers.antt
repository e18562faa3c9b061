use Rattle.lb_front.proofs.Committed.{stands_first}
use Rattle.lb_front.proofs.book.Book.empty.Goals as goal

pub returns-clause-stands : goal.returns-clause-stands
returns-clause-stands c = stands_first _ c.args.limit _ c.new.ensures.items c.requires.bounded c.empty.ensures
