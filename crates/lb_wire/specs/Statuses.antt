-- The numbers with which the programs end.
use Rattle.std.specs.Prelude.{ℕ}
use Rattle.lb_wire.specs.declared.status.Status.{Status}
use Rattle.lb_wire.specs.declared.status.Status.TheVariants.{Done, BadWords, ReadFault, WriteFault, NoMemory, TooLong, BadScript, TooManySessions}

-- the exit status
abbrev pub number_of : Status → ℕ
number_of Done = 0
number_of BadWords = 2
number_of ReadFault = 3
number_of WriteFault = 4
number_of NoMemory = 5
number_of TooLong = 6
number_of (BadScript line) = 7
number_of TooManySessions = 8
