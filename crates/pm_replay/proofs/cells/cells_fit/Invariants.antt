use Rattle.std.proofs.Common.{ℕ, ◌<◌, get_or}
use Rattle.pm_meas.specs.declared.cell.Cell.{Cell}
use Rattle.pm_replay.specs.Cells.{FitsSlot}
use Rattle.pm_replay.proofs.cells.cells_fit.Given as goal

abbrev pub invariant-loop-pair : goal.invariant-loop-pair
invariant-loop-pair l = (k : ℕ) (d : ℕ × Cell) → k < l.pair-index → FitsSlot l.width (get_or l.cells k d)
