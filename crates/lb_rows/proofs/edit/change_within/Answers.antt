use Rattle.std.proofs.Common.{sym, ap, ltb, true, false, rules}
use Rattle.std.specs.Option.{option_copied}
use Rattle.std.proofs.lemmas.Bool.{lt-ltb, le-ltb}
use Rattle.std.proofs.lemmas.List.Sorted.{IsPartitionPoint-from_clause, IsPartitionedBy-ltb}
use Rattle.lb_rows.specs.Edits.{place_of}
use Rattle.lb_rows.proofs.Halves.{found_there, none_there}
use Rattle.lb_rows.proofs.edit.change_within.Goals as goal

pub returns-then-change-end : goal.returns-then-change-end
returns-then-change-end c =
    let point = IsPartitionPoint-from_clause (λ x. ltb (place_of x) c.args.first) _ _ c.partition_point-at.ensures.partitioned (IsPartitionedBy-ltb place_of c.args.changes.now c.args.first c.requires) (λ a r q k. search rules) in
    sym (found_there place_of c.args.first c.args.end _ _ _ _ true c.requires point c.item_at.ensures (ap option_copied c.in-Some.is) (lt-ltb _ _ c.if-change-end.true))

pub returns-else-change-end : goal.returns-else-change-end
returns-else-change-end c =
    let point = IsPartitionPoint-from_clause (λ x. ltb (place_of x) c.args.first) _ _ c.partition_point-at.ensures.partitioned (IsPartitionedBy-ltb place_of c.args.changes.now c.args.first c.requires) (λ a r q k. search rules) in
    sym (found_there place_of c.args.first c.args.end _ _ _ _ false c.requires point c.item_at.ensures (ap option_copied c.in-Some.is) (le-ltb _ _ c.if-change-end.false))

pub returns-in-None : goal.returns-in-None
returns-in-None c =
    let point = IsPartitionPoint-from_clause (λ x. ltb (place_of x) c.args.first) _ _ c.partition_point-at.ensures.partitioned (IsPartitionedBy-ltb place_of c.args.changes.now c.args.first c.requires) (λ a r q k. search rules) in
    sym (none_there place_of c.args.first c.args.end _ _ _ c.requires point c.item_at.ensures (ap option_copied c.in-None.is))
