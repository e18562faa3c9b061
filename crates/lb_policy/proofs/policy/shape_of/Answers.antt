use Rattle.std.proofs.Common.{ap, sym, ◌∙◌, List, [], ◌∷◌, ◌++◌}
use Rattle.std.specs.Prelude.{filter_map}
use Rattle.lb_cat.specs.Stamps.{bare}
use Rattle.lb_alter.specs.ChangePolicy.{definition_named}
use Rattle.lb_label.specs.Component.{Definition}
use Rattle.lb_policy.proofs.Components.{there_more}
use Rattle.lb_policy.proofs.policy.shape_of.Goals as goal

pub loop-name-preserved : goal.loop-name-preserved
loop-name-preserved c =
    let f = definition_named (bare c.args.catalog.now) in
    c.in_ok-add_component.ensures
    ∙ ap (λ (s : List Definition). s ++ filter_map f (c.name-item.result ∷ [])) c.loop-name.invariant
    ∙ sym (there_more f c.args.names.now c.loop-name.name-index c.name-item.result c.loop-name-test.true c.name-item.is)
