use Rattle.std.proofs.Common.{◌≡◌, take}
use Rattle.lb_cat.proofs.copies.copy_records.Given as goal

-- the copies so far are the records so far
abbrev pub invariant-loop-record : goal.invariant-loop-record
invariant-loop-record g l = l.copied ≡ take l.record-index l.records
