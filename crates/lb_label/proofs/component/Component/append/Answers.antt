use Rattle.std.proofs.Common.{◌≡◌, ap, ◌∙◌, ◌++◌, ◌∷◌, [], ◌||◌, cond, eqb}
use Rattle.std.specs.List.{list_any}
use Rattle.lb_label.specs.Component.{ancestors, and_above}
use Rattle.lb_label.proofs.ComponentLemmas.{kept_with_view}
use Rattle.lb_label.proofs.component.Component.append.Goals as goal

pub invariant_of-self-2 : goal.invariant_of-self-2
invariant_of-self-2 c =
    kept_with_view _ _ _ (record { text = c.in_ok-from_str.field-0; parent = c.args.parent; rank = c.len-number.result; line = c.new_line.result }) _ _ c.args.text.now c.args.self.now
    c.self.view_is c.self.invariant c.requires.few c.requires.text c.requires.fresh c.requires.parent c.in_ok-from_str.ensures.ok c.len-number.ensures.len
    (λ tree i. c.new_line.ensures tree i ∙ ap (λ n. cond (eqb n i || list_any (λ x. eqb x i) (and_above (ancestors c.args.self.now) c.args.parent)) 1 0) c.len-number.ensures.len) c.in_ok-append.ensures.elements (c.in_ok-append.ensures.order ∙ ap (λ n. c.self.inside.order.items ++ n ∷ []) c.len-number.ensures.len)
