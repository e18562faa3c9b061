use Rattle.std.proofs.Common.{◌≡◌, drop}
use Rattle.lb_rows.specs.Lists.{without}
use Rattle.lb_book.specs.Leaving.{is_touched_in}
use Rattle.lb_book.proofs.versions.remove.Given as goal

-- once the rows under the keys that are left are removed too, all are
abbrev pub invariant-loop-key : goal.invariant-loop-key
invariant-loop-key l = without (is_touched_in (drop l.key-index l.touched)) l.tables ≡ without (is_touched_in l.touched) l.fn.tables
