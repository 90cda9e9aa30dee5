-- What kept cells stand for.
use Rattle.std.specs.Prelude.{ℕ, ◌+◌, ◌*◌, ◌≤◌, ◌≡◌, List, length, vec_capacity}
use Rattle.pm_base.specs.Moment.{tick_of}
use Rattle.pm_meas.specs.declared.cell.Cell.{Cell}
use Rattle.pm_inventory.specs.Inventory.{SlotKey}
use Rattle.pm_history.specs.History.{History, last_moment}
use Rattle.pm_close.specs.declared.cells.TickCells.{TickCells}
use Rattle.pm_close.specs.Rows.{row_at, rows_of}

-- Kept cells stand for a history: they are the rows of all ticks from a first one up to that of the last moment, which is left
-- out.
pub record CellsStand (slots : List SlotKey) (h : History) (kept : TickCells) : Type 0 where
  pub wide : kept.slots ≡ length slots
  pub reach : kept.first + kept.ticks ≡ tick_of (last_moment h)
  pub rows : kept.cells.items ≡ rows_of slots h kept.first kept.ticks

-- These are the cells of the tick of the last moment, or cells without a value where a Boot cuts it.
abbrev pub AreOpen : List SlotKey → History → List Cell → Type 0
AreOpen slots h cells = cells ≡ row_at slots h (tick_of (last_moment h))

-- There is room for the rows of so many ticks.
abbrev pub HasRoom : TickCells → ℕ → Type 0
HasRoom kept ticks = ticks * kept.slots ≤ vec_capacity kept.cells

-- Nothing but the room differs.
pub record SameCells (old new : TickCells) : Type 0 where
  pub slots : new.slots ≡ old.slots
  pub first : new.first ≡ old.first
  pub ticks : new.ticks ≡ old.ticks
  pub cells : new.cells.items ≡ old.cells.items
