use Rattle.std.proofs.Common.{◌≡◌, drop}
use Rattle.std.specs.Prelude.{find}
use Rattle.std.specs.Str.{bytes_eq}
use Rattle.lb_changed.proofs.lists.entry_of.Given as goal

-- the entry is among those that are left
abbrev pub invariant-loop-entry : goal.invariant-loop-entry
invariant-loop-entry g l = find (λ x. bytes_eq (g.E.Entry.of x) l.name) l.entries ≡ find (λ x. bytes_eq (g.E.Entry.of x) l.name) (drop l.entry-index l.entries)
