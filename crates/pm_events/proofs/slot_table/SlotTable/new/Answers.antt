use Rattle.std.proofs.Common.{◌≤◌, length, ap, arith}
use Rattle.std.proofs.lemmas.List.{length-map}
use Rattle.pm_inventory.specs.Inventory.{slots}
use Rattle.pm_inventory.specs.Slot.{slot_of_key, event_slots}
use Rattle.pm_events.specs.SlotTableFields.{IsTable}
use Rattle.pm_events.proofs.SlotTableLemmas.{table-of}
use Rattle.pm_events.proofs.slot_table.SlotTable.new.Goals as goal

pub places_of-requires : goal.places_of-requires
places_of-requires c =
    let inventory = c.args.inventory.now in
    let few : length (event_slots inventory) ≤ 4096 = omega (arith, length-map (slots inventory) (slot_of_key inventory), c.slots.ensures.some_slots.1) in
    let table : IsTable c.list_slots.new.entries.items = table-of c.list_slots.new.entries.items (event_slots inventory) c.in_ok-list_slots.ensures.listed c.in_ok-list_slots.ensures.distinct c.in_ok-list_slots.ensures.words few in
    omega (arith, table.few, ap length c.deref.ensures.value)

pub invariant_of-result : goal.invariant_of-result
invariant_of-result c =
    let inventory = c.args.inventory.now in
    let few : length (event_slots inventory) ≤ 4096 = omega (arith, length-map (slots inventory) (slot_of_key inventory), c.slots.ensures.some_slots.1) in
    table-of c.list_slots.new.entries.items (event_slots inventory) c.in_ok-list_slots.ensures.listed c.in_ok-list_slots.ensures.distinct c.in_ok-list_slots.ensures.words few
