use Rattle.std.proofs.Common.{◌≡◌, ◌≤◌, ◌+◌, length}
use Rattle.lb_split.specs.Headers.{names_of}
use Rattle.lb_split.proofs.Worded.{more_names}
use Rattle.lb_split.proofs.header.names.Given as goal

-- the words so far spell the names so far
abbrev pub invariant-words : goal.invariant-words
invariant-words l = record {
  count : length l.names + length l.words ≡ length l.initial.words;
  most : length l.names ≤ 16;
  all : names_of l.initial.words ≡ more_names l.names (names_of l.words);
}

abbrev pub decreases-words : goal.decreases-words
decreases-words l = length l.words
