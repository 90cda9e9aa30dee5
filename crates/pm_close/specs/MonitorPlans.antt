-- What ticks that end make of the monitors, and the crossings that come with them.
use Rattle.std.specs.Prelude.{ℕ, ◌+◌, ◌<◌, ◌≤◌, ◌≡◌, Bool, List, [], ◌∷◌, length, map, Option, Some, None, slice_index_or}
use Rattle.pm_base.specs.Moment.{tick_of}
use Rattle.pm_inventory.specs.Inventory.{InventoryState, SlotKey, slots}
use Rattle.pm_history.specs.declared.entry.Side.{Side}
use Rattle.pm_history.specs.Terms.{Terms, Watched}
use Rattle.pm_history.specs.Standing.{Making}
use Rattle.pm_close.specs.Marks.{NoneCounted}
use Rattle.pm_close.specs.OpenMonitors.{GoesOn}
use Rattle.pm_meas.specs.declared.cell.Cell.{Cell}
use Rattle.pm_history.specs.declared.entry.Entry.TheVariants.{Now}
use Rattle.pm_history.specs.History.{History, ◌▷◌, IsHistory, is_cut, last_moment}
use Rattle.pm_history.specs.Notices.{Crossed, crossings_at}
use Rattle.pm_asked.specs.Asked.{terms_of}
use Rattle.pm_jobs.specs.State.{JobsState, ids}
use Rattle.pm_jobs.specs.Stands.{Stands}
use Rattle.pm_close.specs.declared.cells.TickCells.{TickCells}
use Rattle.pm_close.specs.declared.watches.Watches.{Watches}
use Rattle.pm_close.specs.declared.watches.MetricWatches.{MetricWatches}
use Rattle.pm_close.specs.declared.open_monitors.KeptMonitor.{KeptMonitor}
use Rattle.pm_close.specs.declared.open_monitors_plan.MonitorPlan.{MonitorPlan}
use Rattle.pm_close.specs.declared.crossing.Crossing.{Crossing}
use Rattle.pm_close.specs.declared.open_monitors_tick.MonitorCrossing.{MonitorCrossing}
use Rattle.pm_close.specs.declared.open_monitors_tick.EndCrossings.{EndCrossings}
use Rattle.pm_close.specs.Cells.{CellsStand, AreOpen}
use Rattle.pm_close.specs.Values.{KnowsCells}
use Rattle.pm_close.specs.Watched.{MonitorStands, crossed_as}

-- ---- copies

-- Nothing but the room differs.
pub record SameMetric (old new : MetricWatches) : Type 0 where
  pub of : new.of ≡ old.of
  pub objects : new.objects.items ≡ old.objects.items

pub record SameWatches (old new : List MetricWatches) : Type 0 where
  pub as_many : length new ≡ length old
  pub each : (k : ℕ) (d : MetricWatches) → k < length old → SameMetric (slice_index_or old k d) (slice_index_or new k d)

-- ---- plans

-- The watches that a plan has; where it has none, those that are kept.
abbrev pub watches_of_plan : Watches → Option Watches → Watches
watches_of_plan kept None = kept
watches_of_plan kept (Some watches) = watches

-- What is kept of a monitor once a plan is enacted.
abbrev pub enacted : KeptMonitor → MonitorPlan → KeptMonitor
enacted m plan = record {
  granularity = m.granularity;
  «open» = record { marks = plan.marks; watches = watches_of_plan m.open.watches plan.watches };
}

-- The same of all monitors, each with the plan at its place.
abbrev pub all_enacted : List KeptMonitor → List MonitorPlan → List KeptMonitor
all_enacted [] plans = []
all_enacted (m ∷ ms) [] = m ∷ ms
all_enacted (m ∷ ms) (plan ∷ plans) = enacted m plan ∷ all_enacted ms plans

-- ---- crossings

-- Crossings at an end, as histories have them, with the ids of the monitors at their places.
abbrev pub told_as : List (List ℕ) → ℕ → MonitorCrossing → Crossed
told_as ids end crossing = crossed_as (slice_index_or ids crossing.monitor []) end crossing.crossing

abbrev pub all_told : List (List ℕ) → ℕ → List MonitorCrossing → List Crossed
all_told ids end crossings = map (told_as ids end) crossings

-- The crossings of the monitor at a place.
abbrev pub crossings_in_place : ℕ → List Crossing → List MonitorCrossing
crossings_in_place monitor crossings = map (λ (crossing : Crossing). record { monitor = monitor; crossing = crossing }) crossings

-- ---- requests that end ticks

-- A request at a moment ends this tick, and what is known of the cells of all ticks that it ends; `cut` says whether a start of the
-- program cuts the tick.
pub record TickEnds (inventory : InventoryState) (h : History) (moment : ℕ) (kept : TickCells) (row : List Cell) (cut : Bool)
    (tick : ℕ) : Type 0 where
  pub history : IsHistory h
  pub knows : KnowsCells (slots inventory) (h ▷ Now moment) kept row
  pub over : tick_of (last_moment h) ≤ tick
  pub ends : tick < tick_of moment
  pub cut_is : is_cut h tick ≡ cut

-- A request at a moment ends the open tick and those up to its own. The cells are those of the ticks before the open one, the
-- row is that of the open one, and `cut` says whether a start of the program cuts it.
pub record EndsWithNow (inventory : InventoryState) (jobs : JobsState) (h : History) (moment : ℕ) (kept : TickCells) (row : List Cell)
    (cut : Bool) (tick : ℕ) : Type 0 where
  pub history : IsHistory (h ▷ Now moment)
  pub stands : Stands inventory jobs h
  pub cells : CellsStand (slots inventory) h kept
  pub open_tick : AreOpen (slots inventory) h row
  pub cut_is : is_cut h (tick_of (last_moment h)) ≡ cut
  pub up_to : tick_of moment ≡ tick

-- There are crossings for each end from one tick, which is left out, up to another: those of the monitors that stand.
pub record AreCrossings (inventory : InventoryState) (jobs : JobsState) (h : History) (from tick : ℕ) (crossings : List EndCrossings) : Type 0 where
  pub as_many : from + length crossings ≡ tick
  pub each : (k : ℕ) (d : EndCrossings) → k < length crossings
      → all_told (ids jobs.monitors) (from + k + 1) (slice_index_or crossings k d).crossings.items
      ≡ crossings_at (terms_of inventory) h (from + k + 1)

-- A plan ends ticks up to this one, of which none is counted.
pub record IsCutBy (tick : ℕ) (m : KeptMonitor) (plan : MonitorPlan) : Type 0 where
  pub stands : (terms : Side → List ℕ → Terms) (slots : List SlotKey) (h : History) (w : Making) (watched : List Watched) (armed from : ℕ)
      → NoneCounted terms h w from tick
      → MonitorStands terms slots h w m.granularity watched armed from m.open
      → MonitorStands terms slots h w m.granularity watched armed tick (enacted m plan).open
  pub goes_on : (cells : TickCells) (from : ℕ) → GoesOn cells from m → GoesOn cells tick (enacted m plan)
