use Rattle.std.proofs.Common.{arith, ◌+◌, drop, length-drop}
use Rattle.std.proofs.lemmas.List.{nil_from_length}
use Rattle.lb_wire.proofs.Told.{Took-front}
use Rattle.lb_wire.proofs.memory.source.MemSourceSource.read.Goals as goal

pub returns-then-next_fails-clause-cause : goal.returns-then-next_fails-clause-cause
returns-then-next_fails-clause-cause c = record { later = omega arith; failed = omega arith }

-- what is left is what was given, and then what lies past it
pub returns-clause-bytes : goal.returns-clause-bytes
returns-clause-bytes c =
    let bytes = c.args.self.now.bytes.items in
    let at = c.args.self.now.at in
    let n = c.copy_from-count.result in
    let copied = rw c.deref.ensures.value at c.copy_from-count.ensures.bytes in
    let count = rw c.deref.ensures.value at c.copy_from-count.ensures.count in
    (Took-front bytes c.copy_from-count.new.buf at n copied, λ none room. nil_from_length (drop (at + n) bytes) (omega (arith, none, room, count, c.copy_from-count.auto.buf, length-drop at bytes, length-drop (at + n) bytes)))
