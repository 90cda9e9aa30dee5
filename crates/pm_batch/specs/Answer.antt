-- What a batch is answered, and its entries (this project's own).
use Rattle.std.specs.Prelude.{ℕ, Bool, List, [], Option, Some, None, Result, Ok, Err, nat_lt, if◌then◌else◌}
use Rattle.pm_base.specs.declared.code.Code.TheVariants.{E4}
use Rattle.pm_inventory.specs.Inventory.{InventoryState}
use Rattle.pm_inventory.specs.Slot.{event_slots}
use Rattle.pm_events.specs.declared.event.TheConstants.{MOST_REGISTERED}
use Rattle.pm_events.specs.declared.hit.Hit.{Hit}
use Rattle.pm_history.specs.declared.entry.Entry.{Entry}
use Rattle.pm_history.specs.History.{History}
use Rattle.pm_batch.specs.Reading.{Refusal, read_batch}
use Rattle.pm_batch.specs.OpenCounts.{open_registered}
use Rattle.pm_batch.specs.Entries.{entries_of, with_batch}

-- Whether more events would be registered with the hits, since the tick began or the last Boot in it, than a tick may have.
abbrev pub is_over_full : InventoryState → History → ℕ → List Hit → Bool
is_over_full inventory h moment hits = nat_lt MOST_REGISTERED (open_registered (with_batch inventory h moment hits))

-- Hits that are read are refused where the tick would be over full: no one line is at fault.
abbrev pub within_tick : InventoryState → History → ℕ → Result (List Hit) Refusal → Result (List Hit) Refusal
within_tick inventory h moment (Ok hits) = if is_over_full inventory h moment hits then Err (record { line = 0; code = E4 }) else Ok hits
within_tick inventory h moment (Err refusal) = Err refusal

-- The hits of a batch at a moment after h, or why it is refused: E1, E2 or E3 of its first line that is refused, then E4.
abbrev pub batch_answer : InventoryState → History → ℕ → List ℕ → Result (List Hit) Refusal
batch_answer inventory h moment body = within_tick inventory h moment (read_batch (event_slots inventory) body)

abbrev pub refusal_in : Result (List Hit) Refusal → Option Refusal
refusal_in (Ok hits) = None
refusal_in (Err refusal) = Some refusal

abbrev pub batch_refusal : InventoryState → History → ℕ → List ℕ → Option Refusal
batch_refusal inventory h moment body = refusal_in (batch_answer inventory h moment body)

-- The entries of a batch: an event for each line, and none where it is refused.
abbrev pub entries_in : InventoryState → History → ℕ → Result (List Hit) Refusal → List Entry
entries_in inventory h moment (Ok hits) = entries_of inventory h moment hits
entries_in inventory h moment (Err refusal) = []

abbrev pub batch_entries : InventoryState → History → ℕ → List ℕ → List Entry
batch_entries inventory h moment body = entries_in inventory h moment (batch_answer inventory h moment body)
