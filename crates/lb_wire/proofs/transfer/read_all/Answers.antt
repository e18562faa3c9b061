use Rattle.std.proofs.Common.{arith, length-take}
use Rattle.lb_wire.proofs.Reading.{TookUpTo-too_long, TookUpTo-within}
use Rattle.lb_wire.proofs.transfer.read_all.Goals as goal

-- this turn gave one byte too many
pub returns-in-Ok-clause-taken : goal.returns-in-Ok-clause-taken
returns-in-Ok-clause-taken g c =
    let read = c.in-Ok.ensures in
    let before = c.loop-bytes.invariant in
    TookUpTo-too_long _ _ _ c.loop-bytes.bytes.items c.read.new.buf c.args.most c.in-Ok.count before.took read.bytes.0 read.bound.1
    (omega arith) (omega arith) (omega (arith, length-take c.min-room.result c.loop-bytes.buf))

-- this turn gave no byte too many, and there is no memory for what it gave
pub returns-then-is_err-clause-taken : goal.returns-then-is_err-clause-taken
returns-then-is_err-clause-taken g c =
    let read = c.in-Ok-2.ensures in
    let before = c.loop-bytes.invariant in
    TookUpTo-within _ _ _ c.loop-bytes.bytes.items c.read.new.buf c.args.most c.in-Ok-2.count _ (λ e. cc) before.took read.bytes.0 read.bound.1 (omega arith) (omega arith)
