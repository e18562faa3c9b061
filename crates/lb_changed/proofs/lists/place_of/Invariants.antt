use Rattle.std.proofs.Common.{◌≡◌, ℕ, ◌<◌, false, get_or}
use Rattle.std.specs.Str.{bytes_eq}
use Rattle.lb_changed.proofs.lists.place_of.Given as goal

-- no entry so far has the name
abbrev pub invariant-loop-entry : goal.invariant-loop-entry
invariant-loop-entry g l = (l.place ≡ l.entry-index) × ((k : ℕ) (d : g.row.E.Denot) → k < l.entry-index → bytes_eq (g.E.Entry.of (get_or l.entries k d)) l.name ≡ false)
