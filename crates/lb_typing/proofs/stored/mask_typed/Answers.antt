use Rattle.std.proofs.Common.{ap, ◌∙◌, true, map}
use Rattle.std.specs.Option.{option_copied, option_map}
use Rattle.lb_alter.specs.Naming.{field_of}
use Rattle.lb_names.specs.Places.{outermost}
use Rattle.lb_names.specs.Statements.{broken}
use Rattle.lb_names.specs.Typed.{only_if}
use Rattle.lb_scope.specs.Found.{catalogue, kind_in}
use Rattle.lb_types.specs.Given.{place_in}
use Rattle.lb_typing.proofs.Masks.{mask_is}
use Rattle.lb_typing.proofs.stored.mask_typed.Goals as goal

pub returns-then-mask_takes : goal.returns-then-mask_takes
returns-then-mask_takes c =
    let C = catalogue c.args.catalog.now in
    mask_is C c.args.on.now c.args.column.now c.args.value.now (place_in C c.place_over.result) (kind_in c.in_ok-kind.kind) c.in_ok-kind.n c.mask_takes.result (option_map field_of (option_copied c.column_named.result)) (map field_of c.columns_of.result.now)
    (c.place_over.ensures C ∙ ap (λ v. record outermost { sight = v; subqueries = true; stored = true }) c.in_ok-sight.ensures)
    c.in_ok-kind.ensures c.columns_of.ensures c.column_named.ensures (c.mask_takes.ensures C)
    ∙ ap (λ b. broken (only_if b 0 (kind_in c.in_ok-kind.kind, c.in_ok-kind.n))) c.if-mask_takes.true

pub returns : goal.returns
returns c =
    let C = catalogue c.args.catalog.now in
    mask_is C c.args.on.now c.args.column.now c.args.value.now (place_in C c.place_over.result) (kind_in c.in_ok-kind.kind) c.in_ok-kind.n c.mask_takes.result (option_map field_of (option_copied c.column_named.result)) (map field_of c.columns_of.result.now)
    (c.place_over.ensures C ∙ ap (λ v. record outermost { sight = v; subqueries = true; stored = true }) c.in_ok-sight.ensures)
    c.in_ok-kind.ensures c.columns_of.ensures c.column_named.ensures (c.mask_takes.ensures C)
    ∙ ap (λ b. broken (only_if b 0 (kind_in c.in_ok-kind.kind, c.in_ok-kind.n))) c.if-mask_takes.false
