use Rattle.std.proofs.Common.{ap, ltb, rules}
use Rattle.std.specs.Option.{option_copied}
use Rattle.std.proofs.lemmas.List.Sorted.{IsPartitionPoint-from_clause, IsPartitionedBy-ltb}
use Rattle.lb_rows.proofs.Halves.{any_there, none_any}
use Rattle.lb_rows.proofs.edit.has_place_within.Goals as goal

pub returns-in-Some : goal.returns-in-Some
returns-in-Some c =
    let point = IsPartitionPoint-from_clause (λ x. ltb x c.args.first) _ _ c.partition_point-at.ensures.partitioned (IsPartitionedBy-ltb (λ x. x) c.args.places.now c.args.first c.requires) (λ a r q k. search rules) in
    any_there (λ x. x) c.args.first c.args.end _ _ _ _ c.requires point c.item_at.ensures (ap option_copied c.in-Some.is)

pub returns-in-None : goal.returns-in-None
returns-in-None c =
    let point = IsPartitionPoint-from_clause (λ x. ltb x c.args.first) _ _ c.partition_point-at.ensures.partitioned (IsPartitionedBy-ltb (λ x. x) c.args.places.now c.args.first c.requires) (λ a r q k. search rules) in
    none_any (λ x. x) c.args.first c.args.end _ _ _ c.requires point c.item_at.ensures (ap option_copied c.in-None.is)
