use Rattle.lb_rows.proofs.There.{share_step}
use Rattle.lb_rows.proofs.snap.share_all.Goals as goal

pub loop-version-preserved : goal.loop-version-preserved
loop-version-preserved c = share_step c.args.versions.now c.loop-version.shared.items c.push.new.self.items c.loop-version.version-index c.in_ok-share.field-0 c.version-item.result c.requires.there c.loop-version-test.true c.version-item.is
    c.in_ok-share.ensures c.loop-version.invariant c.push.ensures.items
