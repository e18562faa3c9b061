-- The bit of an ancestor is set in an element's line, and so is the element's own.
use Rattle.std.proofs.Common.{◌≡◌}
use Rattle.std.proofs.lemmas.Bool.Decides.{Decides-at}
use Rattle.lb_label.proofs.Bits.{test_of_line, true_same}
use Rattle.lb_label.proofs.ComponentLemmas.{descends_decides, itself_false}
use Rattle.lb_label.specs.Component.{descends}
use Rattle.lb_label.proofs.component.Component.descends.Goals as goal

pub returns-then-a-b-clause-holds : goal.returns-then-a-b-clause-holds
returns-then-a-b-clause-holds c =
    Decides-at _ (descends c.args.self.now c.args.a c.args.b) (test_of_line c.line-line.result c.args.a c.args.b _ (c.line-line.ensures.bits c.args.b) c.if-a-b.true)
    (descends_decides c.args.self.now c.line-line.ensures.valid c.args.a c.args.b c.requires.a)

pub returns-else-a-b-clause-test : goal.returns-else-a-b-clause-test
returns-else-a-b-clause-test c =
    rw (true_same c.args.a c.args.b c.if-a-b.false, itself_false c.args.self.now c.line-line.ensures.valid c.args.a c.args.b c.requires.a c.if-a-b.false)

pub returns-else-a-b-clause-holds : goal.returns-else-a-b-clause-holds
returns-else-a-b-clause-holds c = Decides-at _ _ (returns-else-a-b-clause-test c) (descends_decides c.args.self.now c.line-line.ensures.valid c.args.a c.args.b c.requires.a)
