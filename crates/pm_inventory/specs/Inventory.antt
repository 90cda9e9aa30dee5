-- The inventory: the managed objects, and the measurements that the objects of a class have (this project's own).
use Rattle.std.specs.Prelude.{◌≡◌, ◌<◌, ◌≤◌, ◌==◌, ◌&&◌, ◌++◌, ℕ, List, [], ◌∷◌, length, map, Option, true, codes, Bool}
use Rattle.std.specs.List.{list_any, flat_map, enumerate_from, position_from}
use Rattle.pm_base.specs.WholeLines.{text_of_lines}
use Rattle.pm_dn.specs.Tree.{is_root, objects_of}
use Rattle.pm_meas.specs.Def.{def_text}
use Rattle.pm_meas.specs.declared.def.Def.{Def}
use Rattle.pm_inventory.specs.declared.inventory.TheConstants.{MAX_SLOTS}

-- What an inventory is: the names of its objects in tree order, and its definitions in catalogue order. The number of an
-- object or a metric is its place.
pub record InventoryState : Type 0 where
  pub objects : List (List ℕ)
  pub measures : List Def

-- A slot, as the numbers of its object and its metric.
pub record SlotKey : Type 0 where
  pub object : ℕ
  pub metric : ℕ

abbrev pub key_of : ℕ → ℕ → SlotKey
key_of metric object = record { object = object; metric = metric }

-- The slots of the metric of this number and definition, by object of its class in tree order.
abbrev pub slots_of_metric : List (List ℕ) → ℕ × Def → List SlotKey
slots_of_metric objects metric = map (key_of metric.0) (objects_of objects metric.1.class)

-- The slots of these objects and definitions, by metric in catalogue order.
abbrev pub slots_of : List (List ℕ) → List Def → List SlotKey
slots_of objects measures = flat_map (slots_of_metric objects) (enumerate_from 0 measures)

abbrev pub slots : InventoryState → List SlotKey
slots inventory = slots_of inventory.objects inventory.measures

-- Whether a slot is that of the object and the metric.
abbrev pub is_slot_of : ℕ → ℕ → SlotKey → Bool
is_slot_of object metric key = key.object == object && key.metric == metric

-- The number of a slot: its place among the slots. None where the metric isn't one of the object's class, or where there
-- is no such metric or object.
abbrev pub slot_number : InventoryState → ℕ → ℕ → Option ℕ
slot_number inventory object metric = position_from (is_slot_of object metric) 0 (slots inventory)

-- A ManagedElement stands.
abbrev pub HasRoot : List (List ℕ) → Type 0
HasRoot objects = list_any is_root objects ≡ true

-- There is a slot, and there are at most `MAX_SLOTS`.
abbrev pub HasSlots : List (List ℕ) → List Def → Type 0
HasSlots objects measures = (0 < length (slots_of objects measures)) × (length (slots_of objects measures) ≤ MAX_SLOTS)

-- The lines of an object, of a measurement, and at the end.
abbrev pub object_line : List ℕ → List ℕ
object_line name = codes "object " ++ name

abbrev pub measure_line : Def → List ℕ
measure_line def = codes "measure " ++ def_text def

abbrev pub end_line : List ℕ
end_line = codes "end"

-- The canonical text: the lines of the objects, of the measurements and of the end, each with its line feed.
abbrev pub inventory_lines : InventoryState → List (List ℕ)
inventory_lines inventory = (map object_line inventory.objects ++ map measure_line inventory.measures) ++ end_line ∷ []

abbrev pub inventory_text : InventoryState → List ℕ
inventory_text inventory = text_of_lines (inventory_lines inventory)
