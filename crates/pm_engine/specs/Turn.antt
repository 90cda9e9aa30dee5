-- A turn: what a request at a moment makes of a run, and the reply (this project's own).
use Rattle.std.specs.Prelude.{ℕ, ◌≡◌, ◌⊎◌, List, codes, nat_lt, if◌then◌else◌}
use Rattle.std.specs.Str.{bytes_eq}
use Rattle.pm_inventory.specs.Inventory.{InventoryState}
use Rattle.pm_history.specs.History.{History, grown, last_moment}
use Rattle.pm_http.specs.declared.reply.Reply.{Reply}
use Rattle.pm_http.specs.declared.request.Request.{Request}
use Rattle.pm_state.specs.Given.{Given, no_memory}
use Rattle.pm_state.specs.Opening.{entered}
use Rattle.pm_state.specs.Step.{IsGiven}
use Rattle.pm_engine.specs.Bears.{Run, settled_at}

-- What a request is given over a history and cursors; and the cursors then.
abbrev pub Gives : InventoryState → History → List ℕ → Request → Given → List ℕ → Type 0
Gives inventory g cursors request given next = IsGiven inventory g cursors request.method request.target request.body given next

-- The reply to a request of this method: HEAD has no body.
abbrev pub reply_to : Request → Reply → Reply
reply_to request reply = record reply { head = bytes_eq request.method (codes "HEAD") }

-- The history with a request in progress, before what it is given: its Now or Boot, where that is later than the last moment.
abbrev pub reached : History → ℕ → History
reached h moment = if nat_lt (last_moment h) moment then entered h moment else h

-- The request is given what the step gives: the history grows by its Now or Boot and its entries.
pub record IsGivenTurn (inventory : InventoryState) (moment : ℕ) (request : Request) (run : Run) (reply : Reply) (next : Run) : Type 0 where
  pub given : Given
  pub cursors : List ℕ
  pub gives : Gives inventory (entered run.history moment) run.cursors request given cursors
  pub reply_is : reply ≡ reply_to request given.reply
  pub next_is : next ≡ settled_at (grown (entered run.history moment) given.entries) cursors

-- There is no memory: the history grows by nothing, or by the Now or Boot where that is later than the last moment.
pub record IsNoMemory (moment : ℕ) (request : Request) (run : Run) (reply : Reply) (next : Run) : Type 0 where
  pub reply_is : reply ≡ reply_to request no_memory
  pub next_is : (next ≡ settled_at run.history run.cursors) ⊎ (next ≡ settled_at (reached run.history moment) run.cursors)

abbrev pub IsTurn : InventoryState → ℕ → Request → Run → Reply → Run → Type 0
IsTurn inventory moment request run reply next =
    IsGivenTurn inventory moment request run reply next ⊎ IsNoMemory moment request run reply next

-- The most that a history may be, with a request in progress: it, with its Now or Boot, or that with what the step gives.
pub record IsMost (inventory : InventoryState) (moment : ℕ) (request : Request) (h : History) (cursors : List ℕ) (most : History) : Type 0 where
  pub is : (most ≡ h) ⊎ (most ≡ entered h moment)
      ⊎ ((given : Given) × (next : List ℕ) × Gives inventory (entered h moment) cursors request given next
      × (most ≡ grown (entered h moment) given.entries))
