-- What is written so far, and what the options still to be read say, are the whole.
use Rattle.std.proofs.Common.{◌≡◌, ◌-◌, length}
use Rattle.lb_readt.specs.Readers.{turns}
use Rattle.lb_readd.specs.Defining.{in_option, option_at, options_at}
use Rattle.lb_readd.proofs.Folded.{with_value}
use Rattle.lb_readd.proofs.Flags.{flags}
use Rattle.lb_readd.proofs.table.column_options.Given as goal

abbrev pub invariant-loop : goal.invariant-loop
invariant-loop l = with_value (flags l.written) (turns (length l.tokens - l.counter) in_option option_at l.rest) ≡ options_at l.tokens
