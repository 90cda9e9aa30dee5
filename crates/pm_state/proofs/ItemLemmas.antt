-- The stored item of a change is that of its entry.
use Rattle.std.proofs.Common.{ℕ, Bool, List, [], ◌∷◌, Option, Some, None, refl}
use Rattle.pm_history.specs.declared.entry.Side.{Side}
use Rattle.pm_history.specs.declared.entry.Side.TheVariants.{Job, Monitor}
use Rattle.pm_inventory.specs.Inventory.{InventoryState}
use Rattle.pm_jobs.specs.Plan.{made_entry, state_entry, deleted_entry}
use Rattle.pm_ledger.specs.Stored.{HasText}
use Rattle.pm_state.specs.ChangeItem.{IsChangeItem, AreItemsOf}
use Rattle.pm_state.specs.Planned.{made_item, state_item, deleted_item, IsText}

made_is : (inventory : InventoryState) (side : Side) (moment : ℕ) (id body bytes : List ℕ) → HasText (made_item side moment id body) bytes
    → IsChangeItem inventory (made_entry side moment id body) bytes
made_is inventory Job moment id body bytes text = record { item = made_item Job moment id body; text = text; over = tt; is = λ h. refl }
made_is inventory Monitor moment id body bytes text = record { item = made_item Monitor moment id body; text = text; over = tt; is = λ h. refl }

state_is : (inventory : InventoryState) (side : Side) (moment : ℕ) (id : List ℕ) (unlocked : Bool) (bytes : List ℕ)
    → HasText (state_item side moment id unlocked) bytes → IsChangeItem inventory (state_entry side moment id unlocked) bytes
state_is inventory Job moment id unlocked bytes text = record { item = state_item Job moment id unlocked; text = text; over = tt; is = λ h. refl }
state_is inventory Monitor moment id unlocked bytes text = record { item = state_item Monitor moment id unlocked; text = text; over = tt; is = λ h. refl }

deleted_is : (inventory : InventoryState) (side : Side) (moment : ℕ) (id bytes : List ℕ) → HasText (deleted_item side moment id) bytes
    → IsChangeItem inventory (deleted_entry side moment id) bytes
deleted_is inventory Job moment id bytes text = record { item = deleted_item Job moment id; text = text; over = tt; is = λ h. refl }
deleted_is inventory Monitor moment id bytes text = record { item = deleted_item Monitor moment id; text = text; over = tt; is = λ h. refl }

pub made_items : (inventory : InventoryState) (side : Side) (moment : ℕ) (id body : List ℕ) (o : Option (List ℕ))
    → IsText (made_item side moment id body) o → AreItemsOf inventory o (made_entry side moment id body ∷ [])
made_items inventory side moment id body None text = absurd text
made_items inventory side moment id body (Some bytes) text = made_is inventory side moment id body bytes text

pub state_items : (inventory : InventoryState) (side : Side) (moment : ℕ) (id : List ℕ) (unlocked : Bool) (o : Option (List ℕ))
    → IsText (state_item side moment id unlocked) o → AreItemsOf inventory o (state_entry side moment id unlocked ∷ [])
state_items inventory side moment id unlocked None text = absurd text
state_items inventory side moment id unlocked (Some bytes) text = state_is inventory side moment id unlocked bytes text

pub deleted_items : (inventory : InventoryState) (side : Side) (moment : ℕ) (id : List ℕ) (o : Option (List ℕ))
    → IsText (deleted_item side moment id) o → AreItemsOf inventory o (deleted_entry side moment id ∷ [])
deleted_items inventory side moment id None text = absurd text
deleted_items inventory side moment id (Some bytes) text = deleted_is inventory side moment id bytes text
