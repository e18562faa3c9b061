use Rattle.lb_rows.proofs.There.{AreShared}
use Rattle.lb_rows.proofs.snap.share_all.Given as goal

-- the versions so far are shared
abbrev pub invariant-loop-version : goal.invariant-loop-version
invariant-loop-version l = AreShared l.versions l.version-index l.shared.items
