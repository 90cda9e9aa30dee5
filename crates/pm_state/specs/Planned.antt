-- What a plan of pm_jobs is, as entries, items and replies.
use Rattle.std.specs.Prelude.{ℕ, ◌≡◌, ◌⊎◌, Bool, List, [], ◌∷◌, Option, Some, None, Result, Ok, Err}
use Rattle.pm_history.specs.declared.entry.Side.{Side}
use Rattle.pm_history.specs.declared.entry.Side.TheVariants.{Job, Monitor}
use Rattle.pm_history.specs.declared.entry.Entry.{Entry}
use Rattle.pm_inventory.specs.Inventory.{InventoryState}
use Rattle.pm_jobs.specs.declared.ask.Ask.{Ask}
use Rattle.pm_jobs.specs.declared.ask.Ask.TheVariants.{Create, State}
use Rattle.pm_jobs.specs.declared.ask.Ask.TheVariants as ask
use Rattle.pm_jobs.specs.declared.plan.Plan.{Plan}
use Rattle.pm_jobs.specs.declared.plan.Plan.TheVariants.{Make, Same, Move, Already, Delete}
use Rattle.pm_jobs.specs.Plan.{made_entry, state_entry, deleted_entry, entries_of, Suits, IsOver}
use Rattle.pm_jobs.specs.Shown.{body_planned}
use Rattle.pm_jobs.specs.State.{JobsState}
use Rattle.pm_close.specs.declared.closer.Closer.{Closer}
use Rattle.pm_close.specs.Closer.{IsPrepared}
use Rattle.pm_ledger.specs.Stored.{HasText}
use Rattle.pm_store.specs.declared.item.Item1.{Item1}
use Rattle.pm_store.specs.declared.item.Item1.TheVariants.{JobMade, JobState, JobDeleted, MonitorMade, MonitorState, MonitorDeleted}
use Rattle.pm_http.specs.declared.reply.Reply.{Reply}
use Rattle.pm_state.specs.declared.change.Change.{Change}
use Rattle.pm_state.specs.Given.{Given, ok, or_empty, no_memory}
use Rattle.pm_state.specs.ChangeItem.{AreItemsOf, AreChangesAt}

-- The stored item of a making, of a state, of a deletion.
abbrev pub made_item : Side → ℕ → List ℕ → List ℕ → Item1
made_item Job moment id body = JobMade moment id body
made_item Monitor moment id body = MonitorMade moment id body

abbrev pub state_item : Side → ℕ → List ℕ → Bool → Item1
state_item Job moment id unlocked = JobState moment id unlocked
state_item Monitor moment id unlocked = MonitorState moment id unlocked

abbrev pub deleted_item : Side → ℕ → List ℕ → Item1
deleted_item Job moment id = JobDeleted moment id
deleted_item Monitor moment id = MonitorDeleted moment id

-- The entries of a plan on what exists, or is to exist, under an id.
abbrev pub planned_entries : List ℕ → Plan → List Entry
planned_entries id (Make side place s) = made_entry side s.changed s.id s.body ∷ []
planned_entries id Same = []
planned_entries id (Move side place unlocked moment) = state_entry side moment id unlocked ∷ []
planned_entries id Already = []
planned_entries id (Delete side place moment) = deleted_entry side moment id ∷ []

-- The status that tells a plan.
abbrev pub planned_status : Plan → ℕ
planned_status (Make side place s) = 201
planned_status Same = 200
planned_status (Move side place unlocked moment) = 200
planned_status Already = 200
planned_status (Delete side place moment) = 204

-- What a plan gives.
abbrev pub planned : JobsState → Side → List ℕ → Plan → Given
planned jobs side id plan = record {
  reply = ok (planned_status plan) (or_empty (body_planned jobs side id plan));
  entries = planned_entries id plan;
}

-- The change may be enacted on these jobs, and is what a request is given, with the bytes of its item.
pub record IsChange (inventory : InventoryState) (jobs : JobsState) (closer : Closer) (moment : ℕ) (given : Given) (change : Change) : Type 0 where
  pub suits : Suits jobs change.plan
  pub made : IsPrepared inventory closer change.plan change.made
  pub over : IsOver inventory change.plan
  pub reply : given.reply ≡ change.reply
  pub entries : given.entries ≡ entries_of jobs change.plan
  pub item : AreItemsOf inventory change.item given.entries
  pub at : AreChangesAt moment given.entries

-- The reply of a look. Want of memory says nothing.
abbrev pub IsLook : Given → Reply → Type 0
IsLook given reply = (reply ≡ no_memory) ⊎ (given ≡ record { reply = reply; entries = [] })

-- A change, or a refusal. Want of memory says nothing.
abbrev pub IsAnswer : InventoryState → JobsState → Closer → ℕ → Given → Result Change Reply → Type 0
IsAnswer inventory jobs closer moment given (Ok change) = IsChange inventory jobs closer moment given change
IsAnswer inventory jobs closer moment given (Err reply) = IsLook given reply

-- There are bytes, and they are the item's.
abbrev pub IsText : Item1 → Option (List ℕ) → Type 0
IsText item None = ⊥
IsText item (Some bytes) = HasText item bytes

-- The id of what a request is on.
abbrev pub id_of : Ask → List ℕ
id_of (Create id body) = id.now
id_of (State id body) = id.now
id_of (ask.Delete id) = id.now

-- The change is a plan, with what it gives.
pub record IsPlanned (jobs : JobsState) (side : Side) (id : List ℕ) (plan : Plan) (change : Change) : Type 0 where
  pub plan_is : change.plan ≡ plan
  pub reply : change.reply ≡ (planned jobs side id plan).reply
  pub item : (inventory : InventoryState) → AreItemsOf inventory change.item (planned_entries id plan)
