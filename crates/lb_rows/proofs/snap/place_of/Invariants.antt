use Rattle.std.proofs.Common.{◌≡◌, ℕ, ◌<◌, false, get_or, Option}
use Rattle.lb_rows.specs.declared.snap.StampedVersion.{StampedVersion}
use Rattle.lb_rows.specs.Kept.{holds}
use Rattle.lb_rows.proofs.snap.place_of.Given as goal

-- no place so far has the table's version
abbrev pub invariant-loop-version : goal.invariant-loop-version
invariant-loop-version l = (l.place ≡ l.version-index) × ((k : ℕ) (d : Option StampedVersion) → k < l.version-index → holds l.table (get_or l.versions k d) ≡ false)
