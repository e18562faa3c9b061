use Rattle.std.proofs.Common.{◌≡◌, ◌∙◌, sym}
use Rattle.lb_label.proofs.RuleLemmas.{array_below_none, array_no_user, array_both}
use Rattle.lb_label.proofs.access.user_is_above.Goals as goal

pub returns-then-value-eq0 : goal.returns-then-value-eq0
returns-then-value-eq0 c = (array_below_none c.args.component.now c.args.user c.args.value c.requires.kind c.if-value-eq0.true).2

pub returns-then-user-eq0 : goal.returns-then-user-eq0
returns-then-user-eq0 c = (array_no_user c.args.component.now c.args.user c.args.value c.requires.kind c.requires.value c.if-value-eq0.false c.if-user-eq0.true).2

pub returns : goal.returns
returns c = c.is_higher.ensures.test ∙ (array_both c.args.component.now c.args.user c.args.value _ _ c.requires.kind c.requires.user c.requires.value c.element_of.ensures c.element_of-2.ensures).2
