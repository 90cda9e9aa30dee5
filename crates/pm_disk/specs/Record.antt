-- What the record of a disk in memory says.
use Rattle.std.specs.Prelude.{ℕ, List, length}
use Rattle.pm_disk.specs.declared.record.Record.{Record}
use Rattle.pm_disk.specs.Made.{Made}
use Rattle.pm_disk.specs.Calls.{calls_made}

-- The calls made, the first of them first.
abbrev pub made : Record → List Made
made r = calls_made r.calls.items r.bytes.items

-- How many bytes its writes have together.
abbrev pub bytes_kept : Record → ℕ
bytes_kept r = length r.bytes.items
