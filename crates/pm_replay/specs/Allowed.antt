-- Which stored item may come next, where these jobs and monitors exist and this was the last moment (this project's own). Nothing is
-- subscribed: no subscription is held yet.
use Rattle.std.specs.Prelude.{ℕ, ◌+◌, ◌*◌, ◌<◌, ◌≤◌, ◌≡◌, Bool, true, false, not, List, [], length, Option, Some, None}
use Rattle.pm_base.specs.Moment.{IsMoment, tick_of}
use Rattle.pm_meas.specs.declared.cell.Cell.{Cell}
use Rattle.pm_inventory.specs.Inventory.{InventoryState, slots, inventory_text}
use Rattle.pm_history.specs.declared.entry.Side.{Side}
use Rattle.pm_history.specs.declared.entry.Side.TheVariants.{Job, Monitor}
use Rattle.pm_jobs.specs.Asked.{Asked, asked_of}
use Rattle.pm_jobs.specs.Plan.{state_under}
use Rattle.pm_jobs.specs.Rules.{stands, create_refusal}
use Rattle.pm_jobs.specs.State.{JobsState}
use Rattle.pm_store.specs.declared.item.Item1.{Item1}
use Rattle.pm_store.specs.declared.item.Item1.TheVariants as stored
use Rattle.pm_replay.specs.Cells.{AllFit}

-- A body is the canonical text of what it asks for.
pub record IsCanonical (side : Side) (body : List ℕ) : Type 0 where
  pub asked : Asked
  pub says : asked_of side body ≡ Some asked
  pub text : asked.text ≡ body

-- A body may be made under an id: nothing exists there, it breaks no rule, and it is canonical.
pub record MayMake (inventory : InventoryState) (jobs : JobsState) (side : Side) (id body : List ℕ) : Type 0 where
  pub fresh : stands jobs side id ≡ false
  pub permitted : create_refusal inventory jobs side id body ≡ None
  pub canonical : IsCanonical side body

-- What exists under an id may become UNLOCKED, or LOCKED: it is the other.
abbrev pub MayMove : JobsState → Side → List ℕ → Bool → Type 0
MayMove jobs side id unlocked = state_under jobs side id ≡ Some (not unlocked)

-- What exists under an id may be deleted.
abbrev pub MayDelete : JobsState → Side → List ℕ → Type 0
MayDelete jobs side id = stands jobs side id ≡ true

-- A moment lies beside the last one: in its tick, and not before it.
pub record IsBeside (last moment : ℕ) : Type 0 where
  pub later : last ≤ moment
  pub same : tick_of moment ≡ tick_of last

-- A Boot: no other inventory's, and not before the last moment.
pub record MayBoot (inventory : InventoryState) (last moment : ℕ) (text : List ℕ) : Type 0 where
  pub in_range : IsMoment moment
  pub later : last ≤ moment
  pub same : text ≡ inventory_text inventory

-- A Booked takes the tick of the last moment: it lies in a later one, at most 86,459 seconds after the first moment of that.
pub record TakesTick (last moment tick : ℕ) : Type 0 where
  pub in_range : IsMoment moment
  pub later : tick_of last < tick_of moment
  pub soon : moment ≤ 60 * tick_of last + 86459
  pub takes : tick ≡ tick_of last

-- A Booked with cells that fit, and a cursor for each subscription: none.
pub record MayBook (inventory : InventoryState) (last moment tick : ℕ) (cells : List (ℕ × Cell)) (cursors : List ℕ) : Type 0 where
  pub tick_taken : TakesTick last moment tick
  pub cells_fit : AllFit (length (slots inventory)) cells
  pub unsubscribed : cursors ≡ []

-- An item may come next.
abbrev pub Allows : InventoryState → JobsState → ℕ → Item1 → Type 0
Allows inventory jobs last (stored.Boot moment version text) = MayBoot inventory last moment text
Allows inventory jobs last (stored.Booked moment tick cells cursors) = MayBook inventory last moment tick cells cursors
Allows inventory jobs last (stored.JobMade moment id body) = IsBeside last moment × MayMake inventory jobs Job id body
Allows inventory jobs last (stored.JobState moment id unlocked) = IsBeside last moment × MayMove jobs Job id unlocked
Allows inventory jobs last (stored.JobDeleted moment id) = IsBeside last moment × MayDelete jobs Job id
Allows inventory jobs last (stored.MonitorMade moment id body) = IsBeside last moment × MayMake inventory jobs Monitor id body
Allows inventory jobs last (stored.MonitorState moment id unlocked) = IsBeside last moment × MayMove jobs Monitor id unlocked
Allows inventory jobs last (stored.MonitorDeleted moment id) = IsBeside last moment × MayDelete jobs Monitor id
Allows inventory jobs last (stored.Subscribed moment id port path) = ⊥
Allows inventory jobs last (stored.Unsubscribed moment id) = ⊥

-- It is of a subscription, which isn't held yet.
abbrev pub IsOfSubscription : Item1 → Type 0
IsOfSubscription (stored.Subscribed moment id port path) = Unit {0}
IsOfSubscription (stored.Unsubscribed moment id) = Unit {0}
IsOfSubscription item = ⊥
