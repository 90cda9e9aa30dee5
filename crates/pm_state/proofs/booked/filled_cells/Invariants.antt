use Rattle.std.proofs.Common.{◌≡◌, ◌++◌, drop}
use Rattle.pm_state.specs.Filled.{filled, filled_from}
use Rattle.pm_state.proofs.booked.filled_cells.Given as goal

abbrev pub invariant-loop-slot : goal.invariant-loop-slot
invariant-loop-slot l = l.pairs.items ++ filled_from l.slot (drop l.slot l.cells) ≡ filled l.cells
