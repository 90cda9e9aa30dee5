-- What is kept of the tick that is open.
use Rattle.std.specs.Prelude.{◌≡◌, ℕ, ◌+◌, ◌%◌, ◌≤◌, List, [], length, map, slice_index_or, slice_set, if◌then◌else◌}
use Rattle.pm_meas.specs.declared.cell.Cell.{Cell}
use Rattle.pm_meas.specs.Cell.{cell_of, with_value}
use Rattle.pm_inventory.specs.Inventory.{InventoryState, SlotKey, slots}
use Rattle.pm_inventory.specs.Slot.{event_slots}
use Rattle.pm_inventory.specs.SlotNames.{AreDistinct}
use Rattle.pm_events.specs.declared.event.TheConstants.{MOST_REGISTERED}
use Rattle.pm_events.specs.declared.hit.Hit.{Hit}
use Rattle.pm_history.specs.History.{History}
use Rattle.pm_items.specs.Items.{open_cells}
use Rattle.pm_batch.specs.declared.phase.Phase.{Phase}
use Rattle.pm_batch.specs.declared.open_tick.OpenTick.{OpenTick}
use Rattle.pm_batch.specs.OpenCounts.{one_if, open_events, open_registered}
use Rattle.pm_batch.specs.Entries.{registers_each}
use Rattle.pm_batch.specs.Phases.{phase_at, registers, registered_by, step_at}

-- It was made for the slots of an inventory, in which no two have the same names.
pub record IsTickOf (inventory : InventoryState) (tick : OpenTick) : Type 0 where
  pub each : map (λ (p : Phase). p.each) tick.phases.items ≡ map (registers_each inventory) (slots inventory)
  pub distinct : AreDistinct (event_slots inventory)

-- The cell of a slot: the fold of its registered values since the last Boot or Now that ended what was open.
abbrev pub open_cell : History → SlotKey → Cell
open_cell h key = open_cells h key.object key.metric

-- The phase of a slot: how many events it has since then, by the number of those of which one is registered.
abbrev pub open_phase : InventoryState → History → SlotKey → Phase
open_phase inventory h key =
    record { seen = open_events key.object key.metric h % registers_each inventory key; each = registers_each inventory key }

-- It stands for a history: by slot, in the order of their numbers, it has the cells and the phases, and it knows how many events are
-- registered.
pub record TickStands (inventory : InventoryState) (h : History) (tick : OpenTick) : Type 0 where
  pub made : IsTickOf inventory tick
  pub cells : tick.cells.items ≡ map (open_cell h) (slots inventory)
  pub phases : tick.phases.items ≡ map (open_phase inventory h) (slots inventory)
  pub registered : tick.registered ≡ open_registered h

-- How many slots it has.
abbrev pub width : OpenTick → ℕ
width tick = length tick.phases.items

-- The tick has room for the registered events of these hits.
abbrev pub HasRoom : OpenTick → List Hit → Type 0
HasRoom tick hits = tick.registered + registered_by tick.phases.items hits ≤ MOST_REGISTERED

-- Nothing but what was tried out differs.
pub record SameTick (old new : OpenTick) : Type 0 where
  pub cells : new.cells.items ≡ old.cells.items
  pub phases : new.phases.items ≡ old.phases.items
  pub registered : new.registered ≡ old.registered

-- A hit is counted: it moves the phase of its slot on, and where it is registered, its value goes into the cell.
pub record CountsHit (old : OpenTick) (hit : Hit) (new : OpenTick) : Type 0 where
  pub phases : new.phases.items ≡ step_at old.phases.items hit.slot
  pub cells : new.cells.items ≡ (if registers (phase_at old.phases.items hit.slot) then slice_set old.cells.items hit.slot (with_value (slice_index_or old.cells.items hit.slot (cell_of [])) hit.value) else old.cells.items)
  pub registered : new.registered ≡ old.registered + one_if (registers (phase_at old.phases.items hit.slot))
