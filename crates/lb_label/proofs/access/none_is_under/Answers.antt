use Rattle.std.proofs.Common.{◌≡◌, ◌<◌, ◌^◌, arith}
use Rattle.lb_label.proofs.UnderLemmas.{tree_none, tree_some}
use Rattle.lb_label.proofs.access.none_is_under.Goals as goal

pub returns-then-value-eq0-clause-read : goal.returns-then-value-eq0-clause-read
returns-then-value-eq0-clause-read c = (tree_none c.args.component.now c.args.user c.args.value c.requires.kind c.if-value-eq0.true).0

pub returns-then-value-eq0-clause-write : goal.returns-then-value-eq0-clause-write
returns-then-value-eq0-clause-write c = (tree_none c.args.component.now c.args.user c.args.value c.requires.kind c.if-value-eq0.true).1

pub returns-clause-read : goal.returns-clause-read
returns-clause-read c =
    let small : c.under.result < 2 ^ 64 = omega arith in
    (tree_some c.args.component.now c.args.user c.args.value c.under.result c.requires.valid c.requires.kind c.requires.value c.if-value-eq0.false small c.under.ensures).0

pub returns-clause-write : goal.returns-clause-write
returns-clause-write c =
    let small : c.under.result < 2 ^ 64 = omega arith in
    (tree_some c.args.component.now c.args.user c.args.value c.under.result c.requires.valid c.requires.kind c.requires.value c.if-value-eq0.false small c.under.ensures).1
