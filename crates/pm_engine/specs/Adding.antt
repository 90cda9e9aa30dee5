-- What is stored of entries that come next: the item of the one that has one, or none.
use Rattle.std.specs.Prelude.{ℕ, ◌≡◌, List, [], ◌∷◌, Option, Some, None}
use Rattle.pm_inventory.specs.Inventory.{InventoryState}
use Rattle.pm_history.specs.declared.entry.Entry.{Entry}
use Rattle.pm_history.specs.History.{History, grown, IsHistory}
use Rattle.pm_items.specs.Items.{items_of, kept}
use Rattle.pm_ledger.specs.Stored.{AddsItem}

-- Entries without an item come next.
pub record AddsNone (h : History) (es : List Entry) : Type 0 where
  pub before : IsHistory h
  pub history : IsHistory (grown h es)
  pub items : items_of (grown h es) ≡ items_of h
  pub kept_is : kept (grown h es) ≡ kept h

-- One entry comes next, and these are the bytes of its item.
pub record AddsOne (inventory : InventoryState) (h : History) (es : List Entry) (bytes : List ℕ) : Type 0 where
  pub e : Entry
  pub one : es ≡ e ∷ []
  pub adds : AddsItem inventory h e bytes

abbrev pub AddsStored : InventoryState → History → List Entry → Option (List ℕ) → Type 0
AddsStored inventory h es None = AddsNone h es
AddsStored inventory h es (Some bytes) = AddsOne inventory h es bytes
