-- That the lines of an inventory have one outcome (this project's own).
use Rattle.std.specs.Prelude.{◌≡◌, ◌++◌, ℕ, List}
use Rattle.pm_base.specs.declared.code.Code.{Code}
use Rattle.pm_inventory.specs.Inventory.{InventoryState, inventory_text}
use Rattle.pm_inventory.specs.InventoryReading.{IsInventoryOf, IsInventoryRefusal}

-- Lines are refused at one number, by one code.
abbrev pub OneRefusal : Type 0
OneRefusal =
    (lines : List (List ℕ)) (n m : ℕ) (c d : Code) → IsInventoryRefusal lines n c → IsInventoryRefusal lines m d → (n ≡ m) × (c ≡ d)

-- Lines that begin with those of an inventory aren't refused.
abbrev pub NeverRefused : Type 0
NeverRefused =
    (read left : List (List ℕ)) (inventory : InventoryState) (n : ℕ) (c : Code) → IsInventoryOf read inventory → IsInventoryRefusal (read ++ left) n c → ⊥

-- Lines begin with those of one inventory, as its canonical text tells it.
abbrev pub OneInventory : Type 0
OneInventory =
    (read left other rest : List (List ℕ)) (a b : InventoryState) → IsInventoryOf read a → IsInventoryOf other b → read ++ left ≡ other ++ rest → (read ≡ other) × (inventory_text a ≡ inventory_text b)
