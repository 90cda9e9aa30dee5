-- Rows of cells by tick: in a row a cell for each slot, and rows end to end, oldest first (this project's own).
use Rattle.std.specs.Prelude.{ℕ, zero, suc, ◌+◌, ◌*◌, ◌<◌, ◌≤◌, ◌==◌, List, [], ◌++◌, length, map, replicate, slice_index_or, if◌then◌else◌}
use Rattle.pm_meas.specs.declared.cell.Cell.{Cell}
use Rattle.pm_meas.specs.declared.cell.TheConstants.{MAX_VALUE}
use Rattle.pm_meas.specs.Cell.{cell_of}
use Rattle.pm_inventory.specs.Inventory.{SlotKey}
use Rattle.pm_history.specs.History.{History, is_cut}
use Rattle.pm_history.specs.Value.{values_where}
use Rattle.pm_close.specs.declared.limits.TheConstants.{MOST_EVENTS}

-- The cell of a slot in a tick: the fold of the values of its registered events.
abbrev pub tick_cell : History → ℕ → SlotKey → Cell
tick_cell h tick slot = cell_of (values_where slot.object slot.metric (λ t. t == tick) h)

-- The cells of a tick, by slot.
abbrev pub cells_in : List SlotKey → History → ℕ → List Cell
cells_in slots h tick = map (tick_cell h tick) slots

-- A row without a value.
abbrev pub blank : List SlotKey → List Cell
blank slots = replicate (length slots) (cell_of [])

-- What is kept of a tick: nothing of one that a Boot cuts.
abbrev pub row_at : List SlotKey → History → ℕ → List Cell
row_at slots h tick = if is_cut h tick then blank slots else cells_in slots h tick

-- The rows of n ticks from the first on.
abbrev pub rows_of : List SlotKey → History → ℕ → ℕ → List Cell
rows_of slots h first zero = []
rows_of slots h first (suc n) = rows_of slots h first n ++ row_at slots h (first + n)

-- Of rows with so many cells each, the cell of the slot with this number in the k-th row.
abbrev pub cell_at : List Cell → ℕ → ℕ → ℕ → Cell
cell_at cells width slot k = slice_index_or cells (k * width + slot) (cell_of [])

-- Cells of one tick each: so many values at most, and a sum that they can have.
abbrev pub IsSmall : Cell → Type 0
IsSmall cell = (cell.n ≤ MOST_EVENTS) × (cell.sum ≤ cell.n * MAX_VALUE)

abbrev pub AreSmall : List Cell → Type 0
AreSmall cells = (k : ℕ) → k < length cells → IsSmall (slice_index_or cells k (cell_of []))
