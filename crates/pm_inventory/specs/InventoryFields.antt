-- What the fields of an inventory mean.
use Rattle.std.specs.Prelude.{◌≡◌, ◌<◌, ℕ, List, [], length, take, slice_index, slice_index_or, true}
use Rattle.pm_base.specs.declared.class.Class.{Class}
use Rattle.pm_dn.specs.Containment.{has_path_to}
use Rattle.pm_dn.specs.Tree.{objects_of}
use Rattle.pm_meas.specs.declared.def.Def.{Def}
use Rattle.pm_inventory.specs.Inventory.{InventoryState, HasRoot, HasSlots, slots_of}
use Rattle.pm_inventory.specs.declared.inventory.Inventory.TheInside.{Inside}

abbrev pub inventory_state : Inside → InventoryState
inventory_state i = record { objects = i.tree; measures = i.catalogue }

-- For each metric the number of the slots before its own.
pub record AreFirst (objects : List (List ℕ)) (measures : List Def) (first : List ℕ) : Type 0 where
  pub many : length first ≡ length measures
  pub each : (metric : ℕ) → metric < length measures → slice_index first metric ≡ length (slots_of objects (take metric measures))

-- For each object the number of the objects of its class before it.
pub record ArePlaces (objects : List (List ℕ)) (places : List ℕ) : Type 0 where
  pub many : length places ≡ length objects
  pub each : (object : ℕ) (class : Class) → object < length objects → has_path_to class (slice_index_or objects object []) ≡ true → slice_index places object ≡ length (objects_of (take object objects) class)

pub record IsNumbered (i : Inside) : Type 0 where
  pub root : HasRoot i.tree
  pub some_slots : HasSlots i.tree i.catalogue
  pub first : AreFirst i.tree i.catalogue i.first.items
  pub places : ArePlaces i.tree i.places.items
  pub slots : i.slots ≡ length (slots_of i.tree i.catalogue)
