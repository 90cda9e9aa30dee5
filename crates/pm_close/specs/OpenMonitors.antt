-- What is kept of the monitors that stand, in byte order of their ids.
use Rattle.std.specs.Prelude.{ℕ, ◌+◌, ◌<◌, ◌≤◌, ◌≡◌, Bool, true, false, List, [], ◌∷◌, length, Option, Some, None, max, insert, remove, slice_index_or, slice_set}
use Rattle.pm_base.specs.Moment.{tick_of}
use Rattle.pm_inventory.specs.Inventory.{InventoryState, SlotKey, slots}
use Rattle.pm_history.specs.declared.entry.Side.{Side}
use Rattle.pm_history.specs.declared.entry.Side.TheVariants.{Job, Monitor}
use Rattle.pm_history.specs.declared.entry.Entry.{Entry}
use Rattle.pm_history.specs.declared.entry.Entry.TheVariants.{Boot}
use Rattle.pm_history.specs.Notices.{crossings_at}
use Rattle.pm_history.specs.Entry.{moment_of, change_of}
use Rattle.pm_history.specs.History.{History, ◌▷◌, IsHistory, grown, size, last_moment}
use Rattle.pm_history.specs.Terms.{Terms, Watched}
use Rattle.pm_history.specs.Standing.{Making, Standing, making_of, standing_after}
use Rattle.pm_history.specs.Counted.{is_counted}
use Rattle.pm_asked.specs.Asked.{terms_of}
use Rattle.pm_jobs.specs.State.{JobsState, ids}
use Rattle.pm_jobs.specs.Stands.{Stands}
use Rattle.pm_jobs.specs.Plan.{Suits, entries_of}
use Rattle.pm_jobs.specs.declared.plan.Plan.{Plan}
use Rattle.pm_jobs.specs.declared.plan.Plan.TheVariants.{Make, Same, Move, Already, Delete}
use Rattle.pm_jobs.specs.declared.standing.Standing as job
use Rattle.pm_close.specs.declared.limits.TheConstants.{MOST_TICKS}
use Rattle.pm_close.specs.declared.cells.TickCells.{TickCells}
use Rattle.pm_close.specs.declared.open_monitors.KeptMonitor.{KeptMonitor}
use Rattle.pm_close.specs.Marks.{MarksStand}
use Rattle.pm_close.specs.Values.{IsCovered}
use Rattle.pm_close.specs.Watched.{AllWithin, MonitorStands}
use Rattle.pm_close.specs.WatchedOf.{WatchesBegin}

-- ---- without a history

-- What is kept of a monitor can go on from a tick over these cells: its slots and the ticks that it counted are among them.
pub record GoesOn (cells : TickCells) (tick : ℕ) (m : KeptMonitor) : Type 0 where
  pub few : m.granularity ≤ MOST_TICKS
  pub marks : m.open.marks.count < m.granularity
  pub reach : m.open.marks.begin + m.open.marks.count ≡ tick
  pub covered : IsCovered cells m.open.marks
  pub within : AllWithin cells.slots m.open.watches.metrics.items

abbrev pub AllGoOn : TickCells → ℕ → List KeptMonitor → Type 0
AllGoOn cells tick monitors = (k : ℕ) (d : KeptMonitor) → k < length monitors → GoesOn cells tick (slice_index_or monitors k d)

-- Its marks reach to a tick at most.
pub record ReachesTo (tick : ℕ) (m : KeptMonitor) : Type 0 where
  pub few : m.granularity ≤ MOST_TICKS
  pub marks : m.open.marks.count < m.granularity
  pub reach : m.open.marks.begin + m.open.marks.count ≤ tick

abbrev pub AllReachTo : ℕ → List KeptMonitor → Type 0
AllReachTo tick monitors = (k : ℕ) (d : KeptMonitor) → k < length monitors → ReachesTo tick (slice_index_or monitors k d)

-- No open granularity period needs cells of a tick before this one.
abbrev pub NeedsFrom : ℕ → List KeptMonitor → Type 0
NeedsFrom first monitors = (k : ℕ) (d : KeptMonitor) → k < length monitors → first ≤ (slice_index_or monitors k d).open.marks.begin

-- The last such tick, but at most this one.
pub record IsFirstNeeded (tick : ℕ) (monitors : List KeptMonitor) (first : ℕ) : Type 0 where
  pub most : first ≤ tick
  pub needs : NeedsFrom first monitors
  pub last : (other : ℕ) → other ≤ tick → NeedsFrom other monitors → other ≤ first

-- ---- histories

-- What is kept of a monitor stands for a history up to a tick, where this stands under its id.
pub record IsKept (inventory : InventoryState) (h : History) (tick : ℕ) (id : List ℕ) (s : Standing) (m : KeptMonitor) : Type 0 where
  pub granularity : m.granularity ≡ (terms_of inventory Monitor s.body).granularity
  pub stands : MonitorStands (terms_of inventory) (slots inventory) h (making_of Monitor id s) m.granularity
      (terms_of inventory Monitor s.body).watched s.armed tick m.open

-- The same, whatever stands there: the place of its making is taken from the history.
abbrev pub IsKeptUnder : InventoryState → History → ℕ → List ℕ → KeptMonitor → Type 0
IsKeptUnder inventory h tick id m =
    (s : Standing) → standing_after (terms_of inventory) Monitor h id ≡ Some s → IsKept inventory h tick id s m

-- One for each of these ids.
abbrev pub AreKept : InventoryState → History → ℕ → List (List ℕ) → List KeptMonitor → Type 0
AreKept inventory h tick [] [] = Unit {0}
AreKept inventory h tick [] (m ∷ ms) = ⊥
AreKept inventory h tick (id ∷ is) [] = ⊥
AreKept inventory h tick (id ∷ is) (m ∷ ms) = IsKeptUnder inventory h tick id m × AreKept inventory h tick is ms

-- What is kept of the monitors that stand goes up to the tick of the last moment, which is left out.
abbrev pub MonitorsOpen : InventoryState → JobsState → History → List KeptMonitor → Type 0
MonitorsOpen inventory jobs h monitors = AreKept inventory h (tick_of (last_moment h)) (ids jobs.monitors) monitors

-- ---- plans of jobs

-- What is kept of a monitor that is made in a tick: no tick is counted, and no value sequence has a value.
pub record IsFresh (inventory : InventoryState) (tick : ℕ) (made : job.Standing) (m : KeptMonitor) : Type 0 where
  pub granularity : m.granularity ≡ (terms_of inventory Monitor made.body).granularity
  pub marks : (terms : Side → List ℕ → Terms) (h : History) (w : Making)
      → ((t : ℕ) → t < tick → is_counted terms h w t ≡ false) → MarksStand terms h w m.granularity tick m.open.marks
  pub watches : WatchesBegin inventory (terms_of inventory Monitor made.body).watched m.open.watches.metrics.items

-- The value sequences of a monitor begin again, after it was set to UNLOCKED; the rest is the same.
pub record IsRearmed (old new : KeptMonitor) : Type 0 where
  pub granularity : new.granularity ≡ old.granularity
  pub marks : new.open.marks ≡ old.open.marks
  pub stands : (terms : Side → List ℕ → Terms) (slots : List SlotKey) (h g : History) (w : Making) (granularity : ℕ)
      (watched : List Watched) (before armed : ℕ)
      → MonitorStands terms slots h w granularity watched before (tick_of armed) old.open
      → MarksStand terms g w granularity (tick_of armed) old.open.marks
      → MonitorStands terms slots g w granularity watched armed (tick_of armed) new.open
  pub within : (slots : ℕ) → AllWithin slots old.open.watches.metrics.items → AllWithin slots new.open.watches.metrics.items

-- Those of the monitor at a place do.
pub record IsRearmedAt (place : ℕ) (old new : List KeptMonitor) : Type 0 where
  pub monitor : KeptMonitor
  pub is : new ≡ slice_set old place monitor
  pub rearmed : IsRearmed (slice_index_or old place monitor) monitor

-- This was made for a plan: what is kept of a monitor where it makes one, and else nothing.
abbrev pub IsFor : InventoryState → ℕ → Plan → Option KeptMonitor → Type 0
IsFor inventory tick (Make Monitor place s) None = ⊥
IsFor inventory tick (Make Monitor place s) (Some m) = IsFresh inventory tick s m
IsFor inventory tick _ made = made ≡ None

-- Among so many monitors there is the place that a plan names.
abbrev pub HasPlaceToMake : ℕ → Side → ℕ → Option KeptMonitor → Type 0
HasPlaceToMake many Job place made = Unit {0}
HasPlaceToMake many Monitor place None = ⊥
HasPlaceToMake many Monitor place (Some m) = (place ≤ many) × (many < 32)

abbrev pub HasPlaceAt : ℕ → Side → ℕ → Type 0
HasPlaceAt many Job place = Unit {0}
HasPlaceAt many Monitor place = place < many

abbrev pub HasPlace : ℕ → Plan → Option KeptMonitor → Type 0
HasPlace many (Make side place s) made = HasPlaceToMake many side place made
HasPlace many Same made = Unit {0}
HasPlace many (Move side place unlocked moment) made = HasPlaceAt many side place
HasPlace many Already made = Unit {0}
HasPlace many (Delete side place moment) made = HasPlaceAt many side place

-- What is kept, behind a plan: one more, the value sequences of one begin again, one less, or the same.
abbrev pub IsMade : Side → ℕ → Option KeptMonitor → List KeptMonitor → List KeptMonitor → Type 0
IsMade Job place made old new = new ≡ old
IsMade Monitor place None old new = new ≡ old
IsMade Monitor place (Some m) old new = new ≡ insert old place m

abbrev pub IsMoved : Side → ℕ → Bool → List KeptMonitor → List KeptMonitor → Type 0
IsMoved Job place unlocked old new = new ≡ old
IsMoved Monitor place true old new = IsRearmedAt place old new
IsMoved Monitor place false old new = new ≡ old

abbrev pub IsDeleted : Side → ℕ → List KeptMonitor → List KeptMonitor → Type 0
IsDeleted Job place old new = new ≡ old
IsDeleted Monitor place old new = new ≡ remove old place

abbrev pub IsFollowed : Plan → Option KeptMonitor → List KeptMonitor → List KeptMonitor → Type 0
IsFollowed (Make side place s) made old new = IsMade side place made old new
IsFollowed Same made old new = new ≡ old
IsFollowed (Move side place unlocked moment) made old new = IsMoved side place unlocked old new
IsFollowed Already made old new = new ≡ old
IsFollowed (Delete side place moment) made old new = IsDeleted side place old new

-- The jobs of a history may enact a plan next.
pub record MayEnact (inventory : InventoryState) (jobs : JobsState) (h : History) (plan : Plan) : Type 0 where
  pub stands : Stands inventory jobs h
  pub suits : Suits jobs plan
  pub history : IsHistory (grown h (entries_of jobs plan))

-- An entry of the open tick that neither makes nor changes nor deletes a monitor leaves what is kept.
abbrev pub MonitorsOpenStay : Type 0
MonitorsOpenStay =
    (inventory : InventoryState) (jobs : JobsState) (h : History) (e : Entry) (monitors : List KeptMonitor)
    → last_moment h ≤ moment_of e → tick_of (moment_of e) ≡ tick_of (last_moment h)
    → ((id : List ℕ) → change_of Monitor id e ≡ None)
    → MonitorsOpen inventory jobs h monitors → MonitorsOpen inventory jobs (h ▷ e) monitors

-- A plan that jobs may enact, and what is made for it, may be followed beside them.
abbrev pub MayFollowPlans : Type 0
MayFollowPlans =
    (inventory : InventoryState) (jobs : JobsState) (tick : ℕ) (plan : Plan) (made : Option KeptMonitor) (many : ℕ)
    → many ≡ length jobs.monitors → Suits jobs plan → IsFor inventory tick plan made → HasPlace many plan made

-- What can go on reaches to each later tick.
abbrev pub GoOnReaches : Type 0
GoOnReaches =
    (cells : TickCells) (from tick : ℕ) (monitors : List KeptMonitor) → from ≤ tick → AllGoOn cells from monitors → AllReachTo tick monitors

-- What can go on over cells can go on over those that are left of them, where these begin at the first needed tick or before.
abbrev pub GoOnLater : Type 0
GoOnLater =
    (cells later : TickCells) (first tick : ℕ) (monitors : List KeptMonitor)
    → later.slots ≡ cells.slots → later.first ≡ max cells.first first → NeedsFrom first monitors
    → AllGoOn cells tick monitors → AllGoOn later tick monitors

-- No crossing comes with ticks that a start of the program ends.
abbrev pub BootsHaveNoCrossings : Type 0
BootsHaveNoCrossings =
    (terms : Side → List ℕ → Terms) (h : History) (m end : ℕ) → 0 < size h → tick_of (last_moment h) < end → end ≤ tick_of m
    → crossings_at terms (h ▷ Boot m) end ≡ []
