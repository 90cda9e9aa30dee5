use Rattle.std.proofs.Common.{◌≡◌, map, take}
use Rattle.pm_store.specs.Rows.{cell_in}
use Rattle.pm_store.proofs.rows.cells_of.Given as goal

abbrev pub invariant-loop-row : goal.invariant-loop-row
invariant-loop-row l = l.cells.items ≡ map cell_in (take l.row-index l.rows)
