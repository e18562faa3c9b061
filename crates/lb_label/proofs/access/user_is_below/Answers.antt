use Rattle.std.proofs.Common.{◌≡◌, ◌∙◌, sym}
use Rattle.lb_label.proofs.RuleLemmas.{array_below_none, array_no_user, array_both}
use Rattle.lb_label.proofs.access.user_is_below.Goals as goal

pub returns-then-value-eq0-clause-read : goal.returns-then-value-eq0-clause-read
returns-then-value-eq0-clause-read c = (array_below_none c.args.component.now c.args.user c.args.value c.requires.kind c.if-value-eq0.true).0

pub returns-then-value-eq0-clause-write : goal.returns-then-value-eq0-clause-write
returns-then-value-eq0-clause-write c = (array_below_none c.args.component.now c.args.user c.args.value c.requires.kind c.if-value-eq0.true).1

pub returns-then-user-eq0-clause-read : goal.returns-then-user-eq0-clause-read
returns-then-user-eq0-clause-read c = (array_no_user c.args.component.now c.args.user c.args.value c.requires.kind c.requires.value c.if-value-eq0.false c.if-user-eq0.true).0

pub returns-then-user-eq0-clause-write : goal.returns-then-user-eq0-clause-write
returns-then-user-eq0-clause-write c = (array_no_user c.args.component.now c.args.user c.args.value c.requires.kind c.requires.value c.if-value-eq0.false c.if-user-eq0.true).1

pub returns-clause-read : goal.returns-clause-read
returns-clause-read c = c.is_higher.ensures.test ∙ (array_both c.args.component.now c.args.user c.args.value _ _ c.requires.kind c.requires.user c.requires.value c.element_of-2.ensures c.element_of.ensures).0

pub returns-clause-write : goal.returns-clause-write
returns-clause-write c = c.is_higher.ensures.test ∙ (array_both c.args.component.now c.args.user c.args.value _ _ c.requires.kind c.requires.user c.requires.value c.element_of-2.ensures c.element_of.ensures).1
