use Rattle.std.proofs.Common.{◌∙◌}
use Rattle.lb_cat.proofs.ByName.{same_records, by_name_after_copy}
use Rattle.lb_cat.proofs.records.Records.copy.Goals as goal

pub invariant_of-result : goal.invariant_of-result
invariant_of-result g c = by_name_after_copy g.R.Named.name c.self.inside.records.entries c.in_ok-records.records.entries c.self.invariant c.in_ok-records.ensures.cases

pub returns : goal.returns
returns g c = same_records g.R.Named.name c.self.inside.records.entries c.in_ok-records.records.entries c.in_ok-records.ensures.cases ∙ c.self.view_is
