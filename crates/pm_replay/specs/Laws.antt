-- An item is allowed exactly where the items of the history permit it.
use Rattle.std.specs.Prelude.{ℕ, ◌<◌, ◌≡◌, ◌↔◌, List, [], length, All}
use Rattle.pm_meas.specs.declared.cell.Cell.{Cell}
use Rattle.pm_inventory.specs.Inventory.{InventoryState, slots, slot_number, inventory_text}
use Rattle.pm_inventory.specs.Slot.{event_slots}
use Rattle.pm_inventory.specs.SlotNames.{AreDistinct}
use Rattle.pm_history.specs.History.{History, size, last_moment}
use Rattle.pm_items.specs.Cursors.{cursors_taken}
use Rattle.pm_items.specs.Permitted.{Rules, Permits}
use Rattle.pm_items.specs.Subscribed.{subscribers_after}
use Rattle.pm_asked.specs.Asked.{terms_of}
use Rattle.pm_jobs.specs.State.{JobsState}
use Rattle.pm_jobs.specs.Stands.{Stands}
use Rattle.pm_store.specs.declared.item.Item1.{Item1}
use Rattle.pm_store.specs.declared.item.Item1.TheVariants.{Boot, Booked}
use Rattle.pm_store.specs.Item.{IsItem}
use Rattle.pm_store.specs.Stored.{item_in}
use Rattle.pm_replay.specs.Allowed.{Allows, IsOfSubscription}
use Rattle.pm_replay.specs.Rules.{AreRules}

-- An item is over an inventory: a Boot has its text, and the cells of a Booked are those of its slots.
abbrev pub IsOver : InventoryState → Item1 → Type 0
IsOver inventory (Boot moment version text) = text ≡ inventory_text inventory
IsOver inventory (Booked moment tick cells cursors) = All (λ (c : ℕ × Cell). c.0 < length (slots inventory)) cells
IsOver inventory item = Unit {0}

-- What a store keeps with the next Booked are its cursors.
abbrev pub HasCursors : List (List ℕ) → History → Item1 → Type 0
HasCursors taken h (Booked moment tick cells cursors) = cursors_taken taken h ≡ cursors
HasCursors taken h item = Unit {0}

-- An item comes next after a history, in which these jobs and monitors stand and nothing is subscribed.
pub record IsNext (inventory : InventoryState) (jobs : JobsState) (h : History) (taken : List (List ℕ)) (item : Item1) : Type 0 where
  pub distinct : AreDistinct (event_slots inventory)
  pub begun : 0 < size h
  pub stands : Stands inventory jobs h
  pub unsubscribed : subscribers_after h ≡ []
  pub item_is : IsItem item
  pub over : IsOver inventory item
  pub cursors : HasCursors taken h item
  pub held : IsOfSubscription item → ⊥

abbrev pub AllowedAsPermitted : Type 0
AllowedAsPermitted =
    (inventory : InventoryState) (rules : Rules) (taken : List (List ℕ)) (jobs : JobsState) (h : History) (item : Item1)
    → AreRules inventory rules → IsNext inventory jobs h taken item
    → (Allows inventory jobs (last_moment h) item ↔ Permits (terms_of inventory) rules taken h (item_in (slot_number inventory) item))
