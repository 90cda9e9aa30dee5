use Rattle.std.proofs.Common.{◌++◌, List, take, map}
use Rattle.pm_dn.specs.Tree.{objects_of}
use Rattle.pm_inventory.specs.Slot.{Slot, slot_of}
use Rattle.pm_events.specs.SlotTableFields.{Lists}
use Rattle.pm_events.proofs.slot_table.list_metric.Given as goal

abbrev pub invariant-loop-object : goal.invariant-loop-object
invariant-loop-object l = (slots : List Slot) → Lists l.initial.entries.items slots → Lists l.entries.items (slots ++ map (slot_of l.tree l.def) (objects_of (take l.object l.tree) l.def.class))
