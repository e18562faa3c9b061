use Rattle.std.proofs.Common.{◌≡◌, take}
use Rattle.std.specs.Str.{bytes_eq}
use Rattle.lb_rows.specs.Lists.{without}
use Rattle.lb_changed.proofs.lists.without.Given as goal

-- the others of the entries so far are kept
abbrev pub invariant-loop-entry : goal.invariant-loop-entry
invariant-loop-entry g l = l.left ≡ without (λ x. bytes_eq (g.E.Entry.of x) l.name) (take l.entry-index l.entries)
