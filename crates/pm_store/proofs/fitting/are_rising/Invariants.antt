use Rattle.std.proofs.Common.{◌≡◌, ◌≤◌, drop}
use Rattle.pm_store.specs.Rows.{are_rising, rise_from}
use Rattle.pm_store.proofs.fitting.are_rising.Given as goal

-- What is left rises from the least slot on exactly where all cells rise.
abbrev pub invariant-loop-slot : goal.invariant-loop-slot
invariant-loop-slot l =
    record {
      same : rise_from l.least (drop l.slot-index l.cells) ≡ are_rising l.cells;
      small : l.least ≤ 65536;
    }
