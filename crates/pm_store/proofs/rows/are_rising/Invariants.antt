use Rattle.std.proofs.Common.{◌≡◌, map, ◌≤◌, drop}
use Rattle.pm_store.specs.Rows.{cell_in, are_rising, rise_from}
use Rattle.pm_store.proofs.rows.are_rising.Given as goal

-- What is left rises from the least slot on exactly where all cells rise.
abbrev pub invariant-loop-row : goal.invariant-loop-row
invariant-loop-row l =
    record {
      same : rise_from l.least (map cell_in (drop l.row-index l.rows)) ≡ are_rising (map cell_in l.rows);
      small : l.least ≤ 65536;
    }
