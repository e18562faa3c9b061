use Rattle.std.proofs.Common.{◌≡◌, drop}
use Rattle.std.specs.List.{list_any}
use Rattle.std.specs.Str.{bytes_eq}
use Rattle.lb_control.proofs.kind.has_entry.Given as goal

-- the answer is that for the entries that are left
abbrev pub invariant-loop-entry : goal.invariant-loop-entry
invariant-loop-entry g l = list_any (λ x. bytes_eq (g.E.Entry.of x) l.name) l.entries ≡ list_any (λ x. bytes_eq (g.E.Entry.of x) l.name) (drop l.entry-index l.entries)
