use Rattle.std.proofs.Common.{◌≡◌, ◌++◌, take, string_bytes}
use Rattle.lb_block.specs.Parts.{behind_blanks}
use Rattle.lb_block.proofs.entries.push_each.Given as goal

-- each name so far stands after a blank
abbrev pub invariant-loop-name : goal.invariant-loop-name
invariant-loop-name l = string_bytes l.out ≡ string_bytes l.initial.out ++ behind_blanks (take l.name-index l.names)
