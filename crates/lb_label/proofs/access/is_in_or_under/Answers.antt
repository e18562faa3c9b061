use Rattle.std.proofs.Common.{◌≡◌}
use Rattle.lb_label.proofs.RuleLemmas.{line_test}
use Rattle.lb_label.proofs.access.is_in_or_under.Goals as goal

pub returns : goal.returns
returns c = line_test c.args.component.now c.line.result c.args.element c.args.top c.requires.valid c.requires.kind c.requires.top c.line.ensures.bits
