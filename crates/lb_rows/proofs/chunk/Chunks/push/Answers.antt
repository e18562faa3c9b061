use Rattle.std.proofs.Common.{◌∙◌, ap, length}
use Rattle.lb_rows.proofs.Placed.{placed_last, count_push}
use Rattle.lb_rows.proofs.chunk.Chunks.push.Goals as goal

pub invariant_of-self-2 : goal.invariant_of-self-2
invariant_of-self-2 c =
    rw (c.in_ok-push.ensures.items) (
      placed_last c.self.inside.chunks.items _ c.self.invariant.0 c.self.invariant.1 c.requires.few,
      count_push c.self.inside.chunks.items _ c.self.inside.count c.len.result c.self.invariant.1 (c.len.ensures ∙ ap length c.deref.ensures),
    )
