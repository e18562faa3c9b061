use Rattle.lb_alter.proofs.Rules.{plain_rules_steady}
use Rattle.lb_alter.proofs.laws.some_rules_are_steady.Goals as goal

pub returns : goal.returns
returns c = plain_rules_steady
