use Rattle.std.proofs.Common.{◌∙◌, ap, drop, leb, ◌-◌, rules}
use Rattle.std.proofs.lemmas.List.Sorted.{IsPartitionPoint-from_clause, IsPartitionedBy-leb}
use Rattle.lb_rows.proofs.Placed.{in_order, first_of, none_at, begins_before, run_in}
use Rattle.lb_rows.proofs.chunk.run_from.Goals as goal

pub returns-then-after-eq0 : goal.returns-then-after-eq0
returns-then-after-eq0 c =
    let point = IsPartitionPoint-from_clause (λ x. leb (first_of x) c.args.place) _ _ c.partition_point-after.ensures.partitioned (IsPartitionedBy-leb first_of c.args.chunks.now c.args.place (in_order 0 c.args.chunks.now c.requires)) (λ a r q k. search rules) in
    none_at c.args.chunks.now c.args.place c.requires (rw c.if-after-eq0.true at point)

pub overflow_sub-place : goal.overflow_sub-place
overflow_sub-place c =
    let point = IsPartitionPoint-from_clause (λ x. leb (first_of x) c.args.place) _ _ c.partition_point-after.ensures.partitioned (IsPartitionedBy-leb first_of c.args.chunks.now c.args.place (in_order 0 c.args.chunks.now c.requires)) (λ a r q k. search rules) in
    begins_before c.args.chunks.now c.args.place c.partition_point-after.result c.index-chunks-after.result point c.if-after-eq0.false c.index-chunks-after.is

pub returns : goal.returns
returns c =
    let point = IsPartitionPoint-from_clause (λ x. leb (first_of x) c.args.place) _ _ c.partition_point-after.ensures.partitioned (IsPartitionedBy-leb first_of c.args.chunks.now c.args.place (in_order 0 c.args.chunks.now c.requires)) (λ a r q k. search rules) in
    run_in c.args.chunks.now c.args.place c.partition_point-after.result c.index-chunks-after.result _ c.requires point c.if-after-eq0.false c.partition_point-after.ensures.bound c.index-chunks-after.is
    (c.rest_of.ensures ∙ ap (drop (c.args.place - c.index-chunks-after.result.first)) (c.as_slice.ensures ∙ c.deref.ensures))
