use Rattle.std.proofs.lemmas.Result.{IfOk-weaker}
use Rattle.lb_cat.specs.Stamps.{bare}
use Rattle.lb_alter.specs.Change.{attempt}
use Rattle.lb_alter.specs.Naming.{stored_rules}
use Rattle.lb_settled.proofs.Left.{leaves}
use Rattle.lb_settled.proofs.leaving.settled.Goals as goal

pub returns : goal.returns
returns c T user s made =
    IfOk-weaker c.settled.result _ _ (λ m. leaves (c.untouched_stays.ensures stored_rules) (c.changes_stay_sound.ensures stored_rules) c.stored_rules_are_steady.ensures c.args.catalog.now T user s m c.requires)
    (c.settled.ensures T (attempt stored_rules (bare c.args.catalog.now) T user s) made)
