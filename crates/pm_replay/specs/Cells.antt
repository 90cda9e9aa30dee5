-- The cells of a stored tick, and its row: a cell for each slot (this project's own).
use Rattle.std.specs.Prelude.{ℕ, ◌<◌, ◌≡◌, List, length, All, slice_index_or, []}
use Rattle.pm_meas.specs.declared.cell.Cell.{Cell}
use Rattle.pm_meas.specs.Cell.{cell_of}
use Rattle.pm_items.specs.Permitted.{IsInRange}
use Rattle.pm_store.specs.Stored.{cell_at}

-- A stored cell is that of one of so many slots, and has values in range.
abbrev pub FitsSlot : ℕ → ℕ × Cell → Type 0
FitsSlot width c = (c.0 < width) × IsInRange c.1

abbrev pub AllFit : ℕ → List (ℕ × Cell) → Type 0
AllFit width cells = All (FitsSlot width) cells

-- The row of stored cells: of each slot its cell, or one without values.
pub record IsRow (width : ℕ) (cells : List (ℕ × Cell)) (row : List Cell) : Type 0 where
  pub wide : length row ≡ width
  pub each : (slot : ℕ) → slot < width → slice_index_or row slot (cell_of []) ≡ cell_at cells slot
