-- What an engine gives, and what it stands for then.
use Rattle.std.specs.Prelude.{ℕ, ◌≡◌, ◌⊎◌, Bool, true, false, List, Option, Some, None}
use Rattle.pm_disk.specs.Moments.{Told, Throughout}
use Rattle.pm_inventory.specs.Inventory.{InventoryState}
use Rattle.pm_history.specs.History.{History, grown}
use Rattle.pm_items.specs.Items.{kept}
use Rattle.pm_items.specs.Kept.{IsBeginning}
use Rattle.pm_ledger.specs.Between.{EachBetween}
use Rattle.pm_http.specs.declared.reply.Reply.{Reply}
use Rattle.pm_state.specs.Given.{Given}
use Rattle.pm_state.specs.Opening.{entered}
use Rattle.pm_engine.specs.declared.engine.Engine.{Engine}
use Rattle.pm_engine.specs.Bears.{Bears}
use Rattle.pm_engine.specs.Turn.{reached}

-- The reply is what is given; the history grows by its entries, and these are the cursors then.
pub record Gave (Is : Given → List ℕ → Type 0) (IsTold : Type 0) (engine : Engine) (disk : Told) (g : History) (reply : Reply) : Type 0 where
  pub given : Given
  pub next : List ℕ
  pub is : Is given next
  pub reply_is : reply ≡ given.reply
  pub bears : Bears IsTold engine disk (grown g given.entries) next

-- The same; or there is no memory, and history and cursors stay.
abbrev pub GivesBy : (Given → List ℕ → Type 0) → (IsTold : Type 0) → Engine → Told → History → List ℕ → Option Reply → Type 0
GivesBy Is IsTold engine disk g cursors None = Bears IsTold engine disk g cursors
GivesBy Is IsTold engine disk g cursors (Some reply) = Gave Is IsTold engine disk g reply

-- At each moment each image holds a history between what is kept of one and what is kept of another: that with the entries given, at most.
pub record Meanwhile (Is : Given → List ℕ → Type 0) (inventory : InventoryState) (old new : Told) (g : History) : Type 0 where
  pub most : History
  pub is : (most ≡ g) ⊎ ((given : Given) × (next : List ℕ) × Is given next × (most ≡ grown g given.entries))
  pub begins : IsBeginning (kept g) (kept most)
  pub moments : Throughout (EachBetween inventory (kept g) (kept most)) old new

-- The Now or the Boot of a request is entered; or there is no memory for it.
abbrev pub Reaches : (IsTold : Type 0) → Engine → Told → History → List ℕ → ℕ → Bool → Type 0
Reaches IsTold engine disk h cursors moment true =
    Bears IsTold engine disk (entered h moment) cursors × Bears IsTold engine disk (reached h moment) cursors
Reaches IsTold engine disk h cursors moment false = Bears IsTold engine disk h cursors
