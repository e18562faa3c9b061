use Rattle.std.proofs.Common.{sym, ◌∙◌}
use Rattle.lb_scope.specs.Found.{catalogue}
use Rattle.lb_scope.proofs.Heads.{is_shared_there, is_alone_there}
use Rattle.lb_scope.proofs.column.unqualified.Goals as goal

pub returns-then-is_shared : goal.returns-then-is_shared
returns-then-is_shared c = sym (is_shared_there (catalogue c.args.catalog.now) c.args.name.now c.args.seen.now c.behind.result.now c.loop-place.place c.index-seen-place.result c.loop-place-test.true (sym c.index-seen-place.is) (sym c.has_column.ensures ∙ c.if-has_column.true) c.behind.ensures c.loop-place.invariant (sym c.is_shared.ensures ∙ c.if-is_shared.true))

pub returns-then-has_column : goal.returns-then-has_column
returns-then-has_column c = c.column_of.ensures ∙ sym (is_alone_there (catalogue c.args.catalog.now) c.args.name.now c.args.seen.now c.behind.result.now c.loop-place.place c.index-seen-place.result c.loop-place-test.true (sym c.index-seen-place.is) (sym c.has_column.ensures ∙ c.if-has_column.true) c.behind.ensures c.loop-place.invariant (sym c.is_shared.ensures ∙ c.if-is_shared.false))
