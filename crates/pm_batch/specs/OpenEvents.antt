-- The events of the open tick, and the batch that was read last.
use Rattle.std.specs.Prelude.{◌≡◌, ℕ, List, [], length, Result, Ok, Err}
use Rattle.pm_base.specs.Lines.{lines_of}
use Rattle.pm_inventory.specs.Inventory.{InventoryState}
use Rattle.pm_inventory.specs.Slot.{event_slots}
use Rattle.pm_events.specs.declared.hit.Hit.{Hit}
use Rattle.pm_history.specs.History.{History}
use Rattle.pm_batch.specs.declared.batch_error.BatchError.{BatchError}
use Rattle.pm_batch.specs.declared.open_events.OpenEvents.{OpenEvents}
use Rattle.pm_batch.specs.Reading.{Tells}
use Rattle.pm_batch.specs.OpenTick.{IsTickOf, TickStands}
use Rattle.pm_batch.specs.Answer.{batch_answer}

-- They were made for an inventory.
pub record AreEventsOf (inventory : InventoryState) (events : OpenEvents) : Type 0 where
  pub slots : events.slots ≡ event_slots inventory
  pub tick : IsTickOf inventory events.tick

-- They stand for a history, and these hits are read and not counted yet.
pub record EventsStand (inventory : InventoryState) (h : History) (hits : List Hit) (events : OpenEvents) : Type 0 where
  pub slots : events.slots ≡ event_slots inventory
  pub tick : TickStands inventory h events.tick
  pub batch : events.batch ≡ hits

-- What was read at a moment after h is the answer of the batch: the number of its lines, where its hits wait to be counted; else why
-- it is refused, where nothing waits.
abbrev pub ReadsBatch : InventoryState → History → ℕ → List ℕ → Result ℕ BatchError → OpenEvents → Type 0
ReadsBatch inventory h moment body (Ok lines) events =
    (batch_answer inventory h moment body ≡ Ok events.batch) × (lines ≡ length (lines_of body)) × EventsStand inventory h events.batch events
ReadsBatch inventory h moment body (Err error) events =
    Tells error (batch_answer inventory h moment body) × EventsStand inventory h [] events
