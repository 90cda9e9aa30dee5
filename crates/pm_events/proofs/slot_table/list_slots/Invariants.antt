use Rattle.std.specs.List.{flat_map}
use Rattle.std.proofs.Common.{take}
use Rattle.pm_inventory.specs.Slot.{slots_of_def}
use Rattle.pm_events.specs.SlotTableFields.{Lists}
use Rattle.pm_events.proofs.slot_table.list_slots.Given as goal

abbrev pub invariant-loop-metric : goal.invariant-loop-metric
invariant-loop-metric l = Lists l.entries.items (flat_map (slots_of_def l.inventory.objects) (take l.metric l.inventory.measures))
