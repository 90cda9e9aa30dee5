-- What a job measures, quantity by quantity, and the periods that it keeps.
use Rattle.std.specs.Prelude.{ℕ, ◌&&◌, List, [], ◌∷◌, ◌++◌, if◌then◌else◌}
use Rattle.std.specs.List.{flat_map}
use Rattle.pm_base.specs.declared.class.Class.{Class}
use Rattle.pm_base.specs.declared.class.TheConstants.{CLASSES}
use Rattle.pm_inventory.specs.Inventory.{InventoryState, slots}
use Rattle.pm_inventory.specs.Slot.{def_at}
use Rattle.pm_asked.specs.Asked.{metric_of, is_of_class, same_class}
use Rattle.pm_close.specs.declared.measure.Measure.{Measure}
use Rattle.pm_close.specs.Parts.{Quantity, ReadEach}

-- The quantity of a metric on an object, by their numbers, where both are of the class.
abbrev pub quantity_on : InventoryState → Class → ℕ → ℕ → List Quantity
quantity_on inventory class object metric =
    if same_class (def_at inventory.measures metric).class class && is_of_class inventory class object
    then record { object = object; metric = metric_of (metric, def_at inventory.measures metric) } ∷ []
    else []

-- Those of some metrics; of these on some objects; and of these for some classes.
abbrev pub quantities_for : InventoryState → Class → List ℕ → ℕ → List Quantity
quantities_for inventory class metrics object = flat_map (quantity_on inventory class object) metrics

abbrev pub quantities_with : InventoryState → List ℕ → List ℕ → Class → List Quantity
quantities_with inventory metrics objects class = flat_map (quantities_for inventory class metrics) objects

-- What metrics and objects ask for by their numbers, by class, by object, by metric.
abbrev pub quantities_asked : InventoryState → List ℕ → List ℕ → List Quantity
quantities_asked inventory metrics objects = flat_map (quantities_with inventory metrics objects) CLASSES

-- Added measures read quantities after those that were read.
abbrev pub AddsReads : InventoryState → List Measure → List Quantity → List Measure → Type 0
AddsReads inventory old more new =
    (quantities : List Quantity) → ReadEach (slots inventory) old quantities → ReadEach (slots inventory) new (quantities ++ more)
