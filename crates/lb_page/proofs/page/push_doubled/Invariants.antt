use Rattle.std.proofs.Common.{◌≡◌, ◌++◌, string_bytes}
use Rattle.std.specs.Str.Iter.{chars_rest}
use Rattle.lb_tok.specs.Lexing.{doubled}
use Rattle.lb_page.proofs.page.push_doubled.Given as goal

-- what is out and what is left are all of it
abbrev pub invariant-loop-c : goal.invariant-loop-c
invariant-loop-c l = string_bytes l.out ++ doubled (chars_rest l.c-iterator) ≡ string_bytes l.initial.out ++ doubled l.text
