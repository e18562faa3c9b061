use Rattle.std.proofs.Common.{◌≡◌, ◌∙◌, sym}
use Rattle.lb_label.proofs.RuleLemmas.{blocks_set, lacks_test}
use Rattle.lb_label.specs.Label.{elements_in}
use Rattle.lb_label.proofs.access.user_lacks_one.Goals as goal

pub returns-clause-read : goal.returns-clause-read
returns-clause-read c = lacks_test c.args.component.now c.args.user c.args.value c.requires.valid c.requires.kind c.requires.user c.requires.value ∙ sym (blocks_set c.args.component.now (elements_in c.args.component.now c.args.user) (elements_in c.args.component.now c.args.value)).0

pub returns-clause-write : goal.returns-clause-write
returns-clause-write c = lacks_test c.args.component.now c.args.user c.args.value c.requires.valid c.requires.kind c.requires.user c.requires.value ∙ sym (blocks_set c.args.component.now (elements_in c.args.component.now c.args.user) (elements_in c.args.component.now c.args.value)).1
