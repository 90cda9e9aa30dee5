-- The item of a change, as bytes.
use Rattle.std.specs.Prelude.{ℕ, ◌≡◌, false, List, [], ◌∷◌, Option, Some, None}
use Rattle.pm_inventory.specs.Inventory.{InventoryState, slot_number}
use Rattle.pm_history.specs.declared.entry.Entry.{Entry}
use Rattle.pm_history.specs.History.{History}
use Rattle.pm_history.specs.Entry.{moment_of, value_of, is_opening}
use Rattle.pm_items.specs.Items.{item_of, ends_tick}
use Rattle.pm_batch.specs.Laws.{is_event}
use Rattle.pm_ledger.specs.Stored.{HasText, IsOver}
use Rattle.pm_store.specs.declared.item.Item1.{Item1}
use Rattle.pm_store.specs.Stored.{item_in}

-- The bytes are those of the item of a change, whatever came before it.
pub record IsChangeItem (inventory : InventoryState) (e : Entry) (bytes : List ℕ) : Type 0 where
  pub item : Item1
  pub text : HasText item bytes
  pub over : IsOver inventory item
  pub is : (h : History) → item_of h e ≡ Some (item_in (slot_number inventory) item)

-- The bytes are those of the item of the one change that there is; or there is none.
abbrev pub AreItemsOf : InventoryState → Option (List ℕ) → List Entry → Type 0
AreItemsOf inventory None [] = Unit {0}
AreItemsOf inventory (Some bytes) (e ∷ []) = IsChangeItem inventory e bytes
AreItemsOf inventory _ _ = ⊥

-- A change at a moment: neither a Now or a Boot nor an event.
pub record IsChangeAt (moment : ℕ) (e : Entry) : Type 0 where
  pub moment_is : moment_of e ≡ moment
  pub beside : is_opening e ≡ false
  pub value : value_of e ≡ 0
  pub no_event : is_event e ≡ false
  pub goes_on : (h : History) → ends_tick h e ≡ false

abbrev pub AreChangesAt : ℕ → List Entry → Type 0
AreChangesAt moment [] = Unit {0}
AreChangesAt moment (e ∷ es) = IsChangeAt moment e × AreChangesAt moment es
