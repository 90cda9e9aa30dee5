use Rattle.std.proofs.Common.{◌≡◌, take}
use Rattle.pm_close.specs.Closer.{filled_from}
use Rattle.pm_close.proofs.filling.filled_cells.Given as goal

abbrev pub invariant-loop-slot : goal.invariant-loop-slot
invariant-loop-slot l = l.cells.items ≡ filled_from 0 (take l.slot l.row)
