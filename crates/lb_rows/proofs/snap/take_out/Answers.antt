use Rattle.lb_rows.proofs.There.{retained, not_of_table, left_there}
use Rattle.std.proofs.Common.{rules}
use Rattle.lb_rows.proofs.snap.take_out.Goals as goal

pub returns-clause-there : goal.returns-clause-there
returns-clause-there c =
    let left = retained _ (not_of_table c.args.table.now) _ (λ t x y b call. search rules) c.args.versions.now.items c.retain.new.self.items c.retain.ensures.filtered in
    (left_there c.args.table.now c.args.versions.now.items c.retain.new.self.items c.requires left).0

pub returns-clause-rest : goal.returns-clause-rest
returns-clause-rest c =
    let left = retained _ (not_of_table c.args.table.now) _ (λ t x y b call. search rules) c.args.versions.now.items c.retain.new.self.items c.retain.ensures.filtered in
    (left_there c.args.table.now c.args.versions.now.items c.retain.new.self.items c.requires left).1
