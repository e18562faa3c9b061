use Rattle.std.proofs.Common.{◌∙◌}
use Rattle.lb_cat.specs.Stamps.{marked}
use Rattle.lb_cat.proofs.Marked.{marks_stamps_alone, bare_alike, look_alike}
use Rattle.lb_cat.proofs.kept.Catalog.mark.Goals as goal

pub returns-clause-bare : goal.returns-clause-bare
returns-clause-bare c = bare_alike c.in_ok-self.field-0 (marked c.args.keys.now c.args.stamp c.args.self.now) c.in_ok-self.ensures ∙ (marks_stamps_alone c.args.self.now c.args.keys.now c.args.stamp).bare

pub returns-clause-stamps : goal.returns-clause-stamps
returns-clause-stamps c k = look_alike c.in_ok-self.field-0 (marked c.args.keys.now c.args.stamp c.args.self.now) c.in_ok-self.ensures k ∙ (marks_stamps_alone c.args.self.now c.args.keys.now c.args.stamp).stamps k
