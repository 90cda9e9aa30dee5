-- Slots: the pairs of a metric and a measured object (this project's own).
use Rattle.std.specs.Prelude.{◌&&◌, ℕ, List, [], map, Option, slice_index_or}
use Rattle.std.specs.List.{position_from}
use Rattle.std.specs.Str.{bytes_eq}
use Rattle.pm_base.specs.declared.class.Class.TheVariants.{ManagedElement}
use Rattle.pm_dn.specs.Tree.{objects_of}
use Rattle.pm_meas.specs.declared.def.Def.{Def}
use Rattle.pm_meas.specs.declared.kind.Kind.{Kind}
use Rattle.pm_meas.specs.declared.kind.Kind.TheVariants.{Cc, Gauge, Der, Si}
use Rattle.pm_meas.specs.declared.kind.Reduce.{Reduce}
use Rattle.pm_meas.specs.declared.kind.Reduce.TheVariants.{Sum}
use Rattle.pm_inventory.specs.Inventory.{InventoryState, SlotKey, slots}

-- A slot, with the texts by which lines of events name it.
pub record Slot : Type 0 where
  pub object : List ℕ  -- the distinguished name of the measured object
  pub metric : List ℕ  -- the name of the measurement
  pub reduce : Reduce
  pub registers_each : ℕ  -- of a DER every n-th event of a tick is registered: its n; 1 of another kind

-- The place of a slot in a list of slots, from 0; none where no slot has these names.
abbrev pub slot_place : List Slot → List ℕ → List ℕ → Option ℕ
slot_place slots object metric = position_from (λ slot. bytes_eq slot.object object && bytes_eq slot.metric metric) 0 slots

-- Of so many events of a tick one is registered.
abbrev pub registers_each_of : Kind → ℕ
registers_each_of Cc = 1
registers_each_of Gauge = 1
registers_each_of (Der n) = n
registers_each_of Si = 1

-- The slot of a metric and the object of this number.
abbrev pub slot_of : List (List ℕ) → Def → ℕ → Slot
slot_of objects def object = record { object = slice_index_or objects object []; metric = def.name; reduce = def.reduce; registers_each = registers_each_of def.kind }

-- The slots of a metric, by object of its class in tree order.
abbrev pub slots_of_def : List (List ℕ) → Def → List Slot
slots_of_def objects def = map (slot_of objects def) (objects_of objects def.class)

-- The definition of the metric of this number; of a number that no metric has, one without a name.
abbrev pub def_at : List Def → ℕ → Def
def_at measures metric = slice_index_or measures metric (record { name = []; class = ManagedElement; kind = Si; reduce = Sum })

-- The slot of a key, as lines of events name it.
abbrev pub slot_of_key : InventoryState → SlotKey → Slot
slot_of_key inventory key = slot_of inventory.objects (def_at inventory.measures key.metric) key.object

-- The slots of an inventory, each at the place that is its number.
abbrev pub event_slots : InventoryState → List Slot
event_slots inventory = map (slot_of_key inventory) (slots inventory)
