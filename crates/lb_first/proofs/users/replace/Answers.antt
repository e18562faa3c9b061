use Rattle.std.proofs.Common.{◌≡◌, ap, ◌∙◌}
use Rattle.lb_base.specs.declared.key.Key.TheVariants as keys
use Rattle.lb_cat.specs.Stamps.{Kept, look, with_kept_user}
use Rattle.lb_changed.proofs.Stamps.{all_stay, user_stamp}
use Rattle.lb_first.proofs.users.replace.Goals as goal

pub returns-clause-stamps : goal.returns-clause-stamps
returns-clause-stamps c =
    let K : Kept = c.args.changed.now in
    let put : c.put_user.new.self ≡ with_kept_user c.args.rec K = c.in_ok-put_user.ensures.kept ∙ ap (λ r. with_kept_user r K) c.in_ok-new.ensures.ok in
    all_stay K c.put_user.new.self (keys.User c.args.rec.name) c.args.rec.stamp (user_stamp K c.args.rec.name) c.requires
    (λ k. ap (λ (L : Kept). look L k) put ∙ (c.stamps_follow_their_records.ensures K).put_user c.args.rec k)
