-- What stands in a source and a sink in memory.
use Rattle.std.specs.Prelude.{ℕ, List, drop, vec_capacity}
use Rattle.lb_wire.specs.declared.memory.source.MemSource.{MemSource}
use Rattle.lb_wire.specs.declared.memory.sink.MemSink.{MemSink}

-- the numbers of the calls that fail, from 1
abbrev pub source_fails : MemSource → List ℕ
source_fails s = s.calls.fails.items

-- how many calls there were
abbrev pub source_made : MemSource → ℕ
source_made s = s.calls.made

-- the bytes past the place that was reached
abbrev pub bytes_left : MemSource → List ℕ
bytes_left s = drop s.at s.bytes.items

-- the numbers of the calls that fail, from 1
abbrev pub sink_fails : MemSink → List ℕ
sink_fails s = s.calls.fails.items

-- how many calls there were
abbrev pub sink_made : MemSink → ℕ
sink_made s = s.calls.made

-- how many bytes its memory takes before it has to grow
abbrev pub sink_room : MemSink → ℕ
sink_room s = vec_capacity s.bytes

-- the bytes that were written
abbrev pub bytes_written : MemSink → List ℕ
bytes_written s = s.bytes.items
