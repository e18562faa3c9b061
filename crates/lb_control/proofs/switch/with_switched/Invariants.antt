use Rattle.std.proofs.Common.{◌≡◌, take, map}
use Rattle.std.specs.Prelude.{if◌then◌else◌}
use Rattle.std.specs.Str.{bytes_eq}
use Rattle.lb_control.proofs.switch.with_switched.Given as goal

-- the entries so far are copied so
abbrev pub invariant-loop-entry : goal.invariant-loop-entry
invariant-loop-entry g l = l.copies ≡ map (λ x. if bytes_eq (g.E.Entry.of x) l.name then g.E.Switched.switched l.enabled x else x) (take l.entry-index l.entries)
