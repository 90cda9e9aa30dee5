-- The entries of a batch (this project's own; discrete event registration is that of TS 32.404).
use Rattle.std.specs.Prelude.{ℕ, ◌+◌, List, [], ◌∷◌, slice_index_or}
use Rattle.pm_meas.specs.Registered.{is_registered}
use Rattle.pm_inventory.specs.Inventory.{InventoryState, SlotKey, key_of, slots}
use Rattle.pm_inventory.specs.Slot.{slot_of_key}
use Rattle.pm_events.specs.declared.hit.Hit.{Hit}
use Rattle.pm_history.specs.declared.entry.Entry.{Entry}
use Rattle.pm_history.specs.declared.entry.Entry.TheVariants.{Event}
use Rattle.pm_history.specs.History.{History, ◌▷◌, grown}
use Rattle.pm_batch.specs.OpenCounts.{open_events}

-- The object and the metric of the slot of this number.
abbrev pub key_at : InventoryState → ℕ → SlotKey
key_at inventory slot = slice_index_or (slots inventory) slot (key_of 0 0)

-- Of how many events of a slot one is registered: the n of a DER, 1 of another kind.
abbrev pub registers_each : InventoryState → SlotKey → ℕ
registers_each inventory key = (slot_of_key inventory key).registers_each

-- An event of a slot after h. It is registered where its number is a multiple of the slot's n: the events of a slot are numbered
-- from 1 since the tick began, or since the last Boot in it.
abbrev pub event_after : InventoryState → History → ℕ → SlotKey → ℕ → Entry
event_after inventory h moment key value =
    Event moment key.object key.metric value (is_registered (registers_each inventory key) (open_events key.object key.metric h + 1))

abbrev pub entry_after : InventoryState → History → ℕ → Hit → Entry
entry_after inventory h moment hit = event_after inventory h moment (key_at inventory hit.slot) hit.value

-- The entries of the hits of a batch at a moment after h, one each, in order.
abbrev pub entries_of : InventoryState → History → ℕ → List Hit → List Entry
entries_of inventory h moment [] = []
entries_of inventory h moment (hit ∷ hits) =
    entry_after inventory h moment hit ∷ entries_of inventory (h ▷ entry_after inventory h moment hit) moment hits

-- The history with a batch.
abbrev pub with_batch : InventoryState → History → ℕ → List Hit → History
with_batch inventory h moment hits = grown h (entries_of inventory h moment hits)
