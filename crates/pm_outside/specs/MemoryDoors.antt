-- What a listener in memory holds, and which of its calls fail (this project's own).
use Rattle.std.specs.Prelude.{ℕ, Option, List, Contains, map}
use Rattle.pm_outside.specs.declared.mem_doors.MemDoors.{MemDoors}
use Rattle.pm_outside.specs.declared.source.MemSource.{MemSource}
use Rattle.pm_outside.specs.declared.sink.MemSink.{MemSink}
use Rattle.pm_outside.specs.Connections.{Connection, DoorsState}
use Rattle.pm_outside.specs.Memory.{source_left, source_faults, sink_written, sink_faults, next_call}

-- A connection of a source and a sink in memory, as it stands.
abbrev pub connection_of : MemSource × MemSink → Connection
connection_of c =
    record {
      left = source_left c.0;
      written = sink_written c.1;
      read_faults = source_faults c.0;
      write_faults = sink_faults c.1;
    }

-- The port that it was bound to last.
abbrev pub doors_port : MemDoors → Option ℕ
doors_port d = d.port

-- The connections that are left, first to last.
abbrev pub doors_left : MemDoors → List Connection
doors_left d = map connection_of d.left.items

-- The connections that are done, first to last.
abbrev pub doors_ended : MemDoors → List Connection
doors_ended d = map connection_of d.ended.items

-- What it tells as a listener.
abbrev pub doors_state : MemDoors → DoorsState
doors_state d = record { port = doors_port d; left = doors_left d; ended = doors_ended d }

-- How many connections are out.
abbrev pub doors_out : MemDoors → ℕ
doors_out d = d.out

-- How often it has failed.
abbrev pub doors_faults : MemDoors → ℕ
doors_faults d = d.faults

-- The numbers of the calls of `bind` and `next` that fail, counted from 1.
abbrev pub doors_fails : MemDoors → List ℕ
doors_fails d = d.fails.items

-- How many calls of `bind` and `next` were made.
abbrev pub doors_calls : MemDoors → ℕ
doors_calls d = d.calls

-- The next call of `bind` or `next` is one that is to fail.
abbrev pub IsDoorsToFail : MemDoors → Type 0
IsDoorsToFail d = Contains (doors_fails d) (next_call (doors_calls d))
