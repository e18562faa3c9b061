-- What a whole run means: of each status, what the source gave and what was written.
use Rattle.std.specs.Prelude.{ℕ, ◌⊎◌, List, [], Option}
use Rattle.std.specs.Io.KnownBytes.{Appends}
use Rattle.lb_wire.specs.Inputs.{WasRead, WasTooLong}
use Rattle.lb_wire.specs.declared.status.Status.{Status}
use Rattle.lb_wire.specs.declared.status.Status.TheVariants as statuses
use Rattle.lbac_canonical.specs.Lines.{texts_of, Printed, PrintedPart}

-- the whole script was read, is within the limit of an input, and the first bytes of its lines were written
abbrev pub IsCut : Option (List ℕ) → Option (List ℕ) → Option (List ℕ) → Option (List ℕ) → Type 0
IsCut left left_now before after = (script : List ℕ) × WasRead left left_now script × PrintedPart (texts_of script) before after

-- What each status says, of the source's bytes and of those written, before and after: the line of each statement was
-- written, in order; or some first bytes of them; or nothing.
abbrev pub Ends : Status → Option (List ℕ) → Option (List ℕ) → Option (List ℕ) → Option (List ℕ) → Type 0
Ends statuses.Done left left_now before after = (script : List ℕ) × WasRead left left_now script × Printed (texts_of script) before after
Ends statuses.WriteFault left left_now before after = IsCut left left_now before after
Ends statuses.NoMemory left left_now before after = Appends before after [] ⊎ IsCut left left_now before after
Ends statuses.ReadFault left left_now before after = Appends before after []
Ends statuses.TooLong left left_now before after = WasTooLong left left_now × Appends before after []
Ends _ left left_now before after = ⊥
