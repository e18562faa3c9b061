use Rattle.lb_grant.proofs.Labels.{held_is_label}
use Rattle.lb_grant.proofs.label.labels_agree.Goals as goal

pub first_mismatch-requires-clause-read : goal.first_mismatch-requires-clause-read
first_mismatch-requires-clause-read c = held_is_label c.args.policy.now c.args.holding.now.read c.label_held-read.result c.requires c.label_held-read.ensures

pub first_mismatch-requires-clause-write : goal.first_mismatch-requires-clause-write
first_mismatch-requires-clause-write c = held_is_label c.args.policy.now c.args.holding.now.write c.label_held-write.result c.requires c.label_held-write.ensures
