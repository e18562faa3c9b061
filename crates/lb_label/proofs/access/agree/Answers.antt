use Rattle.std.proofs.Common.{◌≡◌, sym}
use Rattle.lb_label.proofs.UnderLemmas.{array_agree, set_agree, tree_agree}
use Rattle.lb_label.proofs.access.agree.Goals as goal

pub returns-in-Array : goal.returns-in-Array
returns-in-Array c = array_agree c.args.component.now c.args.read c.args.write (sym c.in-Array.ensures.kind) c.requires.read c.requires.write

pub returns-in-Set : goal.returns-in-Set
returns-in-Set c = set_agree c.args.component.now c.args.read c.args.write c.kind.ensures.valid (sym c.in-Set.ensures.kind) c.requires.read c.requires.write

pub returns-in-Tree : goal.returns-in-Tree
returns-in-Tree c = tree_agree c.args.component.now c.args.read c.args.write c.under.result (sym c.in-Tree.ensures.kind) c.requires.write c.under.ensures
