use Rattle.std.proofs.Common.{◌∙◌, ap}
use Rattle.lb_names.specs.Sights.{level_in}
use Rattle.lb_scope.proofs.Levels.{items_inside, own_within, levels_within}
use Rattle.lb_scope.proofs.sight.Sight.inside_tables.Goals as goal

pub invariant_of-result : goal.invariant_of-result
invariant_of-result c = (
  own_within c.len-own.result c.in_ok-seen.seen c.in_ok-copy_seen.field-0 c.append.new.self c.len-own.ensures c.in_ok-append.ensures.ok,
  levels_within c.self.inside.seen c.append.new.self c.args.tabs.now c.self.invariant.1
      (items_inside c.self.inside.seen c.args.tabs.now c.level_in-level.result c.in_ok-seen.seen c.in_ok-copy_seen.field-0 c.append.new.self
      (c.level_in-level.ensures ∙ ap level_in c.as_slice.ensures) c.in_ok-seen.ensures (c.in_ok-copy_seen.ensures ∙ c.as_slice-2.ensures) c.in_ok-append.ensures.ok),
)
