-- Numbers of metrics and objects, over an inventory.
use Rattle.std.specs.Prelude.{ℕ, ◌<◌, List, length, map, slice_index_or}
use Rattle.pm_inventory.specs.Inventory.{InventoryState}
use Rattle.pm_inventory.specs.Slot.{def_at}
use Rattle.pm_asked.specs.Asked.{Numbered}

-- Each number is less than this.
abbrev pub AreBelow : ℕ → List ℕ → Type 0
AreBelow end numbers = (i : ℕ) → i < length numbers → slice_index_or numbers i 0 < end

-- The metrics of these numbers.
abbrev pub numbered : InventoryState → List ℕ → List Numbered
numbered inventory metrics = map (λ metric. (metric, def_at inventory.measures metric)) metrics
