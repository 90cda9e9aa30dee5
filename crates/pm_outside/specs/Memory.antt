-- What the implementations in memory hold, and which of their calls fail (this project's own).
use Rattle.std.specs.Prelude.{◌⊎◌, ◌<◌, ◌+◌, ◌-◌, ◌^◌, ℕ, List, Contains, drop, length, min}
use Rattle.pm_outside.specs.declared.source.MemSource.{MemSource}
use Rattle.pm_outside.specs.declared.sink.MemSink.{MemSink}

-- The number of the call that follows so many.
abbrev pub next_call : ℕ → ℕ
next_call calls = min (calls + 1) (2 ^ 64 - 1)

-- The bytes that a source has left.
abbrev pub source_left : MemSource → List ℕ
source_left s = drop s.at s.bytes.items

-- How often a source has failed.
abbrev pub source_faults : MemSource → ℕ
source_faults s = s.faults

-- The numbers of the calls of a source that fail, counted from 1.
abbrev pub source_fails : MemSource → List ℕ
source_fails s = s.fails.items

-- How many calls were made of a source.
abbrev pub source_calls : MemSource → ℕ
source_calls s = s.calls

-- The next read of a source is one that is to fail.
abbrev pub IsReadToFail : MemSource → Type 0
IsReadToFail s = Contains (source_fails s) (next_call (source_calls s))

-- The bytes that were written to a sink.
abbrev pub sink_written : MemSink → List ℕ
sink_written s = s.bytes.items

-- How often a sink has failed.
abbrev pub sink_faults : MemSink → ℕ
sink_faults s = s.faults

-- How many bytes a sink has room for, those written among them.
abbrev pub sink_room : MemSink → ℕ
sink_room s = s.room

-- The numbers of the calls of a sink that fail, counted from 1.
abbrev pub sink_fails : MemSink → List ℕ
sink_fails s = s.fails.items

-- How many calls were made of a sink.
abbrev pub sink_calls : MemSink → ℕ
sink_calls s = s.calls

-- A put of so many bytes fails as the call of this number: it is one that is to fail, or the room doesn't hold the bytes.
abbrev pub FailsAt : MemSink → ℕ → ℕ → Type 0
FailsAt s number count = Contains (sink_fails s) number ⊎ (sink_room s < length (sink_written s) + count)

-- The next put of so many bytes into a sink fails.
abbrev pub IsPutToFail : MemSink → ℕ → Type 0
IsPutToFail s count = FailsAt s (next_call (sink_calls s)) count
