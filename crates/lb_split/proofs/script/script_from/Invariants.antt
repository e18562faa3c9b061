use Rattle.std.proofs.Common.{◌≡◌, true, Some, None, length}
use Rattle.lb_split.specs.Scripts.{breaking, script_in}
use Rattle.lb_split.specs.Sections.{headed, IsNextWithin}
use Rattle.lb_split.proofs.Sectioned.{joined}
use Rattle.lb_split.proofs.script.script_from.Given as goal

-- the sections so far stand before those that follow
abbrev pub invariant-sections : goal.invariant-sections
invariant-sections l = record {
  breaks : breaking l.bytes true (headed l.bytes (Some l.fn.first)) ≡ breaking l.bytes l.is_first (headed l.bytes l.next);
  joins : script_in l.bytes (headed l.bytes (Some l.fn.first)) ≡ joined l.script (script_in l.bytes (headed l.bytes l.next));
  fresh : l.is_first ≡ true → l.script.setup ≡ None;
  within : IsNextWithin l.bytes l.next;
}

abbrev pub decreases-sections : goal.decreases-sections
decreases-sections l = length (headed l.bytes l.next)
