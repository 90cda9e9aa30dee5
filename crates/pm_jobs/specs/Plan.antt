-- What a request comes to where it breaks no rule, and what enacting that does.
use Rattle.std.specs.Prelude.{ℕ, ◌+◌, ◌<◌, ◌≤◌, ◌≡◌, Bool, true, false, not, List, [], ◌∷◌, length, Option, Some, None, Result, Ok, Err, if◌then◌else◌, zero, suc, insert, remove, slice_get, slice_index_or}
use Rattle.std.specs.Option.{option_map}
use Rattle.std.specs.Ordering.{nat_cmp, match_ordering}
use Rattle.std.specs.Cmp.Lexicographic.{slice_cmp}
use Rattle.pm_history.specs.declared.entry.Side.{Side}
use Rattle.pm_history.specs.declared.entry.Side.TheVariants.{Job, Monitor}
use Rattle.pm_history.specs.declared.entry.Entry.{Entry}
use Rattle.pm_history.specs.declared.entry.Entry.TheVariants.{JobMade, JobState, JobDeleted, MonitorMade, MonitorState, MonitorDeleted}
use Rattle.pm_inventory.specs.Inventory.{InventoryState}
use Rattle.pm_jobs.specs.declared.standing.Standing.{Standing}
use Rattle.pm_jobs.specs.declared.plan.Plan.{Plan}
use Rattle.pm_jobs.specs.declared.plan.Plan.TheVariants.{Make, Same, Move, Already, Delete}
use Rattle.pm_jobs.specs.declared.plan.Outcome.{Outcome}
use Rattle.pm_jobs.specs.declared.plan.Outcome.TheVariants as outcome
use Rattle.pm_jobs.specs.declared.error.JobError.{JobError}
use Rattle.pm_jobs.specs.declared.error.JobError.TheVariants.{Memory}
use Rattle.pm_jobs.specs.declared.ask.Ask.{Ask}
use Rattle.pm_jobs.specs.declared.ask.Ask.TheVariants as ask
use Rattle.pm_jobs.specs.Asked.{Asked, asked_of}
use Rattle.pm_jobs.specs.Reading.{state_body}
use Rattle.pm_jobs.specs.Rules.{MOST_STANDING, MOST_LOAD, stands, standing_at}
use Rattle.pm_jobs.specs.State.{JobsState, on, with_on, ids_on, load_on, IsItem}
use Rattle.pm_jobs.specs.Stands.{Fits, Keeps}

-- ---- what a plan is

-- The place of an id among others, in byte order.
abbrev pub place_of : List ℕ → List (List ℕ) → ℕ
place_of id [] = 0
place_of id (i ∷ is) = match_ordering (slice_cmp nat_cmp id i) 0 0 (place_of id is + 1)

-- What is put in is new under this id, and is what is asked for, made at this moment.
pub record IsMade (inventory : InventoryState) (moment : ℕ) (id : List ℕ) (asked : Asked) (s : Standing) : Type 0 where
  pub named : s.id ≡ id
  pub body : s.body ≡ asked.text
  pub unlocked : s.unlocked ≡ asked.unlocked
  pub changed : s.changed ≡ moment
  pub armed : s.armed ≡ moment
  pub fits : Fits inventory asked s

-- The plan puts in what is asked for; or nothing, where it stands.
abbrev pub Creates : InventoryState → JobsState → ℕ → Side → List ℕ → Option Asked → Plan → Type 0
Creates inventory jobs moment side id (Some asked) (Make s place standing) =
    (s ≡ side) × (place ≡ place_of id (ids_on side jobs)) × (stands jobs side id ≡ false) × IsMade inventory moment id asked standing
Creates inventory jobs moment side id (Some asked) Same = stands jobs side id ≡ true
Creates inventory jobs moment side id asked plan = ⊥

-- The item at a place, if it is that of an id.
abbrev pub IsAt : JobsState → Side → List ℕ → ℕ → Type 0
IsAt jobs side id place = slice_get (ids_on side jobs) place ≡ Some id

-- The state of what exists under an id.
abbrev pub state_under : JobsState → Side → List ℕ → Option Bool
state_under jobs side id = option_map (λ (s : Standing). s.unlocked) (standing_at (on side jobs) id)

-- The plan sets the state that is asked for; or nothing, where it stands.
abbrev pub Moves : JobsState → ℕ → Side → List ℕ → Option Bool → Plan → Type 0
Moves jobs moment side id (Some unlocked) (Move s place to at) =
    (s ≡ side) × (to ≡ unlocked) × (at ≡ moment) × IsAt jobs side id place × (state_under jobs side id ≡ Some (not unlocked))
Moves jobs moment side id (Some unlocked) Already = state_under jobs side id ≡ Some unlocked
Moves jobs moment side id state plan = ⊥

-- The plan deletes what stands under the id.
abbrev pub Deletes : JobsState → ℕ → Side → List ℕ → Plan → Type 0
Deletes jobs moment side id (Delete s place at) = (s ≡ side) × (at ≡ moment) × IsAt jobs side id place
Deletes jobs moment side id plan = ⊥

-- The plan is what a request comes to.
abbrev pub IsPlan : InventoryState → JobsState → ℕ → Side → Ask → Plan → Type 0
IsPlan inventory jobs moment side (ask.Create id body) plan = Creates inventory jobs moment side id.now (asked_of side body.now) plan
IsPlan inventory jobs moment side (ask.State id body) plan = Moves jobs moment side id.now (state_body body.now) plan
IsPlan inventory jobs moment side (ask.Delete id) plan = Deletes jobs moment side id.now plan

-- The answer is what no rule speaks against, or the first rule broken. Want of memory says nothing.
abbrev pub Answers : {T : Type 0} → Result T JobError → Option JobError → (T → Type 0) → Type 0
Answers (Ok t) broken is = (broken ≡ None) × is t
Answers (Err Memory) broken is = Unit {0}
Answers (Err e) broken is = broken ≡ Some e

-- ---- what it does

-- The plan may be enacted on what stands.
pub record HasRoom (jobs : JobsState) (side : Side) (place : ℕ) (s : Standing) : Type 0 where
  pub at : place ≡ place_of s.id (ids_on side jobs)
  pub fresh : stands jobs side s.id ≡ false
  pub few : length (on side jobs) < MOST_STANDING
  pub load : load_on jobs + s.load ≤ MOST_LOAD
  pub item : IsItem side s

abbrev pub Suits : JobsState → Plan → Type 0
Suits jobs (Make side place s) = HasRoom jobs side place s
Suits jobs Same = Unit {0}
Suits jobs (Move side place unlocked moment) = place < length (on side jobs)
Suits jobs Already = Unit {0}
Suits jobs (Delete side place moment) = place < length (on side jobs)

-- What is put in is what its body asks for over an inventory, in the state as made.
pub record IsNew (inventory : InventoryState) (side : Side) (s : Standing) : Type 0 where
  pub keeps : Keeps inventory side s
  pub unlocked : s.unlocked ≡ keeps.asked.unlocked
  pub armed : s.armed ≡ s.changed

-- A plan was made over an inventory.
abbrev pub IsOver : InventoryState → Plan → Type 0
IsOver inventory (Make side place s) = IsNew inventory side s
IsOver inventory _ = Unit {0}

-- What stands under an id once its state is set at a moment.
abbrev pub with_state : ℕ → Bool → Standing → Standing
with_state moment unlocked s = record s { unlocked = unlocked; changed = moment; armed = if unlocked then moment else s.armed }

-- Items, with another state of the one at a place.
abbrev pub moved_at : ℕ → Bool → ℕ → List Standing → List Standing
moved_at moment unlocked place [] = []
moved_at moment unlocked zero (s ∷ ss) = with_state moment unlocked s ∷ ss
moved_at moment unlocked (suc place) (s ∷ ss) = s ∷ moved_at moment unlocked place ss

-- What stands once a plan is enacted.
abbrev pub jobs_after : JobsState → Plan → JobsState
jobs_after jobs (Make side place s) = with_on side (insert (on side jobs) place s) jobs
jobs_after jobs Same = jobs
jobs_after jobs (Move side place unlocked moment) = with_on side (moved_at moment unlocked place (on side jobs)) jobs
jobs_after jobs Already = jobs
jobs_after jobs (Delete side place moment) = with_on side (remove (on side jobs) place) jobs

abbrev pub outcome_of : Plan → Outcome
outcome_of (Make side place s) = outcome.New
outcome_of Same = outcome.Same
outcome_of (Move side place unlocked moment) = outcome.Changed
outcome_of Already = outcome.Already
outcome_of (Delete side place moment) = outcome.Deleted

-- The id of the item at a place; empty where there is none.
abbrev pub id_at : JobsState → Side → ℕ → List ℕ
id_at jobs side place = slice_index_or (ids_on side jobs) place []

-- The entry that a plan is, if any.
abbrev pub made_entry : Side → ℕ → List ℕ → List ℕ → Entry
made_entry Job moment id body = JobMade moment id body
made_entry Monitor moment id body = MonitorMade moment id body

abbrev pub state_entry : Side → ℕ → List ℕ → Bool → Entry
state_entry Job moment id unlocked = JobState moment id unlocked
state_entry Monitor moment id unlocked = MonitorState moment id unlocked

abbrev pub deleted_entry : Side → ℕ → List ℕ → Entry
deleted_entry Job moment id = JobDeleted moment id
deleted_entry Monitor moment id = MonitorDeleted moment id

abbrev pub entries_of : JobsState → Plan → List Entry
entries_of jobs (Make side place s) = made_entry side s.changed s.id s.body ∷ []
entries_of jobs Same = []
entries_of jobs (Move side place unlocked moment) = state_entry side moment (id_at jobs side place) unlocked ∷ []
entries_of jobs Already = []
entries_of jobs (Delete side place moment) = deleted_entry side moment (id_at jobs side place) ∷ []
