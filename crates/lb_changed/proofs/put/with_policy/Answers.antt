use Rattle.std.proofs.Common.{◌≡◌, ap, ◌∙◌}
use Rattle.lb_base.specs.declared.key.Key.TheVariants as keys
use Rattle.lb_cat.specs.Stamps.{Kept, look, with_kept_policy}
use Rattle.lb_changed.proofs.Stamps.{all_stay, policy_stamp}
use Rattle.lb_changed.proofs.put.with_policy.Goals as goal

pub returns-clause-stamps : goal.returns-clause-stamps
returns-clause-stamps c =
    let K : Kept = c.args.catalog.now in
    let put : c.put_policy.new.self ≡ with_kept_policy c.args.rec K = c.in_ok-put_policy.ensures.kept ∙ ap (λ r. with_kept_policy r c.in_ok-changed.changed) c.in_ok-new.ensures.ok ∙ ap (with_kept_policy c.args.rec) c.in_ok-changed.ensures in
    all_stay K c.put_policy.new.self (keys.Policy c.args.rec.name) c.args.rec.stamp (policy_stamp K c.args.rec.name) c.requires
    (λ k. ap (λ (L : Kept). look L k) put ∙ (c.stamps_follow_their_records.ensures K).put_policy c.args.rec k)
