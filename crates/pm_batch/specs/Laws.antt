-- What holds of batches and of the open tick, whatever came before.
use Rattle.std.specs.Prelude.{◌≡◌, ◌==◌, ℕ, ◌<◌, Bool, true, false, List, map}
use Rattle.pm_base.specs.Moment.{tick_of}
use Rattle.pm_meas.specs.Cell.{cell_of}
use Rattle.pm_inventory.specs.Inventory.{InventoryState, SlotKey, slots}
use Rattle.pm_inventory.specs.Slot.{Slot}
use Rattle.pm_events.specs.declared.hit.Hit.{Hit}
use Rattle.pm_history.specs.declared.entry.Entry.{Entry}
use Rattle.pm_history.specs.declared.entry.Entry.TheVariants.{Event}
use Rattle.pm_history.specs.History.{History, ◌▷◌, grown, size, last_moment, IsHistory, is_cut}
use Rattle.pm_history.specs.Value.{values_where}
use Rattle.pm_items.specs.Items.{ends_tick}
use Rattle.pm_items.specs.Unstored.{AreUnstored}
use Rattle.pm_batch.specs.Answer.{batch_entries}
use Rattle.pm_batch.specs.Reading.{IsWholeOrRefused}
use Rattle.pm_batch.specs.OpenCounts.{open_events, events_in}
use Rattle.pm_batch.specs.OpenTick.{TickStands}
use Rattle.pm_batch.specs.OpenEvents.{EventsStand}
use Rattle.pm_batch.specs.declared.open_events.OpenEvents.{OpenEvents}
use Rattle.pm_batch.specs.declared.open_tick.OpenTick.{OpenTick}

abbrev pub is_event : Entry → Bool
is_event (Event moment object metric value registered) = true
is_event _ = false

-- An entry that is no event and ends nothing leaves what is kept of the open tick: a change, or a Now in the same tick.
abbrev pub TickStays : Type 0
TickStays =
    (inventory : InventoryState) (h : History) (e : Entry) (tick : OpenTick) → ends_tick h e ≡ false → is_event e ≡ false
    → TickStands inventory h tick → TickStands inventory (h ▷ e) tick

-- It leaves the batch that waits too.
abbrev pub EventsStay : Type 0
EventsStay =
    (inventory : InventoryState) (h : History) (e : Entry) (hits : List Hit) (events : OpenEvents) → ends_tick h e ≡ false
    → is_event e ≡ false → EventsStand inventory h hits events → EventsStand inventory (h ▷ e) hits events

-- Where no Boot cuts the tick of the last moment, the cells are those of this tick: of each slot the fold of its registered values in it.
abbrev pub CellsOfTick : Type 0
CellsOfTick =
    (inventory : InventoryState) (h : History) (tick : OpenTick) → IsHistory h → is_cut h (tick_of (last_moment h)) ≡ false
    → TickStands inventory h tick
    → tick.cells.items ≡ map (λ (key : SlotKey). cell_of (values_where key.object key.metric (λ t. t == tick_of (last_moment h)) h)) (slots inventory)

-- There the events of a slot are numbered by tick: as many are open as there are in the tick.
abbrev pub NumbersOfTick : Type 0
NumbersOfTick =
    (object metric : ℕ) (h : History) → IsHistory h → is_cut h (tick_of (last_moment h)) ≡ false
    → open_events object metric h ≡ events_in object metric (tick_of (last_moment h)) h

-- Whatever the slots and the body, the first line that is refused is told, or all lines are read.
abbrev pub FirstIsRefused : Type 0
FirstIsRefused = (table : List Slot) (body : List ℕ) → IsWholeOrRefused table body

-- A history that ends at a moment.
pub record EndsAtMoment (moment : ℕ) (h : History) : Type 0 where
  pub history : IsHistory h
  pub some : 0 < size h
  pub moment_is : last_moment h ≡ moment

-- The entries of a batch may come next, at the moment of its request, and none has an item.
abbrev pub BatchesUnstored : Type 0
BatchesUnstored =
    (inventory : InventoryState) (h : History) (moment : ℕ) (body : List ℕ) → EndsAtMoment moment h
    → AreUnstored h (batch_entries inventory h moment body)

-- With them it is a history that ends at that moment.
abbrev pub BatchesFollow : Type 0
BatchesFollow =
    (inventory : InventoryState) (h : History) (moment : ℕ) (body : List ℕ) → EndsAtMoment moment h
    → EndsAtMoment moment (grown h (batch_entries inventory h moment body))
