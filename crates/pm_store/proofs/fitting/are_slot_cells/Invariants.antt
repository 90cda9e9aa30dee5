use Rattle.std.proofs.Common.{ℕ, ◌<◌, get_or}
use Rattle.pm_meas.specs.declared.cell.Cell.{Cell}
use Rattle.pm_store.specs.Rows.{IsSlotCell}
use Rattle.pm_store.proofs.fitting.are_slot_cells.Given as goal

abbrev pub invariant-loop-pair : goal.invariant-loop-pair
invariant-loop-pair l = (k : ℕ) (d : ℕ × Cell) → k < l.pair-index → IsSlotCell (get_or l.cells k d)
