-- The stored items of a history over an inventory, and the bytes of an area that hold it (this project's own format).
use Rattle.std.specs.Prelude.{ℕ, ◌≡◌, List, [], ◌∷◌, Some}
use Rattle.pm_inventory.specs.Inventory.{InventoryState, slot_number, inventory_text}
use Rattle.pm_history.specs.declared.entry.Entry.{Entry}
use Rattle.pm_history.specs.History.{History, ◌▷◌, IsHistory}
use Rattle.pm_items.specs.Items.{item_of, items_of, kept}
use Rattle.pm_journal.specs.Items.{HasItems, IsWhole}
use Rattle.pm_store.specs.declared.item.Item1.{Item1}
use Rattle.pm_store.specs.declared.item.Item1.TheVariants.{Boot}
use Rattle.pm_store.specs.Item.{item_bytes, IsItem}
use Rattle.pm_store.specs.Stored.{item_in, items_in}

-- The bytes are those of the item.
pub record HasText (item : Item1) (bytes : List ℕ) : Type 0 where
  pub fits : IsItem item
  pub is : bytes ≡ item_bytes item

-- A Boot has the text of the inventory.
abbrev pub IsOver : InventoryState → Item1 → Type 0
IsOver inventory (Boot moment version text) = text ≡ inventory_text inventory
IsOver inventory _ = Unit {0}

-- Each of the bytes are those of the item at its place, over an inventory.
abbrev pub AreStored : InventoryState → List Item1 → List (List ℕ) → Type 0
AreStored inventory [] [] = Unit {0}
AreStored inventory (item ∷ items) (bytes ∷ texts) = HasText item bytes × IsOver inventory item × AreStored inventory items texts
AreStored inventory _ _ = ⊥

-- The bytes, one after the other, are those of the items of a history.
pub record HasTexts (inventory : InventoryState) (texts : List (List ℕ)) (h : History) : Type 0 where
  pub items : List Item1
  pub stored : AreStored inventory items texts
  pub are : items_in (slot_number inventory) items ≡ items_of h

-- An entry that may come after a history has an item, and these are its bytes.
pub record AddsItem (inventory : InventoryState) (h : History) (e : Entry) (bytes : List ℕ) : Type 0 where
  pub history : IsHistory (h ▷ e)
  pub item : Item1
  pub text : HasText item bytes
  pub over : IsOver inventory item
  pub is : item_of h e ≡ Some (item_in (slot_number inventory) item)

-- The bytes of an area hold a history, which ends with an item: they are whole, and their list is that of its items.
pub record Holds (inventory : InventoryState) (bytes : List ℕ) (h : History) : Type 0 where
  pub whole : IsWhole bytes
  pub texts : List (List ℕ)
  pub list : HasItems bytes texts
  pub has : HasTexts inventory texts h
  pub history : IsHistory h
  pub kept_is : kept h ≡ h
