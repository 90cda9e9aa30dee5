-- What is kept of a history over all jobs, and what ends with an entry.
use Rattle.std.specs.Prelude.{ℕ, ◌+◌, ◌^◌, ◌<◌, ◌≤◌, ◌≡◌, ◌++◌, Bool, true, false, List, [], ◌∷◌, length, IfSome, nat_lt, if◌then◌else◌}
use Rattle.pm_base.specs.Moment.{tick_of}
use Rattle.pm_meas.specs.declared.cell.Cell.{Cell}
use Rattle.pm_inventory.specs.Inventory.{InventoryState, SlotKey, slots}
use Rattle.pm_history.specs.declared.entry.Side.{Side}
use Rattle.pm_history.specs.declared.entry.Side.TheVariants.{Job, Monitor}
use Rattle.pm_history.specs.declared.entry.Entry.{Entry}
use Rattle.pm_history.specs.declared.entry.Entry.TheVariants.{Subscribed, Unsubscribed}
use Rattle.pm_history.specs.History.{History, ◌▷◌, MayFollow, is_cut, last_moment}
use Rattle.pm_history.specs.Files.{Report, files_of}
use Rattle.pm_asked.specs.Asked.{terms_of}
use Rattle.pm_items.specs.Unstored.{IsUnstored}
use Rattle.pm_jobs.specs.State.{JobsState}
use Rattle.pm_close.specs.declared.due_report.DueReport.{DueReport}
use Rattle.pm_close.specs.declared.filled.FilledCell.{FilledCell}
use Rattle.pm_close.specs.declared.booking.Booking.{Booking}
use Rattle.pm_close.specs.declared.closer.Closer.{Closer}
use Rattle.pm_close.specs.Rows.{cells_in}
use Rattle.pm_close.specs.Cells.{CellsStand, AreOpen}
use Rattle.pm_close.specs.OpenJobs.{JobsOpen, PlansFit, PlansStand}
use Rattle.pm_close.specs.OpenMonitors.{MonitorsOpen, AllGoOn, GoesOn, IsFor}
use Rattle.pm_close.specs.MonitorPlans.{all_enacted}
use Rattle.pm_close.specs.Following.{ComesWith}
use Rattle.pm_close.specs.declared.prepared.Prepared.{Prepared}
use Rattle.pm_jobs.specs.declared.plan.Plan.{Plan}
use Rattle.pm_close.specs.DueReports.{ended_by, AreFiles}

-- ---- what is kept

-- The tick of the last moment.
abbrev pub closer_tick : Closer → ℕ
closer_tick closer = closer.cells.first + closer.cells.ticks

-- The closer stands for a history, whose jobs and monitors these are: its cells, whether a Boot cuts the tick of the last moment,
-- and what is open of each job and of each monitor.
pub record CloserStands (inventory : InventoryState) (jobs : JobsState) (h : History) (closer : Closer) : Type 0 where
  pub cells : CellsStand (slots inventory) h closer.cells
  pub boots : is_cut h (tick_of (last_moment h)) ≡ closer.cut
  pub open_jobs : JobsOpen inventory h jobs.jobs closer.jobs.jobs.items
  pub open_monitors : MonitorsOpen inventory jobs h closer.monitors.monitors.items

-- How many jobs, or monitors, it has something of.
abbrev pub count_on : Side → Closer → ℕ
count_on Job closer = length closer.jobs.jobs.items
count_on Monitor closer = length closer.monitors.monitors.items

-- It has something for as many jobs and for as many monitors.
pub record ArePaired (jobs : JobsState) (closer : Closer) : Type 0 where
  pub of_jobs : length jobs.jobs ≡ length closer.jobs.jobs.items
  pub of_monitors : length closer.monitors.monitors.items ≡ length jobs.monitors

-- ---- what ends

-- The cells of the tick of the last moment, where no Boot cuts it.
abbrev pub AreCurrent : List SlotKey → History → List Cell → Type 0
AreCurrent slots h cells = is_cut h (tick_of (last_moment h)) ≡ false → cells ≡ cells_in slots h (tick_of (last_moment h))

-- The cell of a slot, if it has a value; and of a row from a slot on, the cells that have one.
abbrev pub filled_one : ℕ → Cell → List FilledCell
filled_one slot cell = if nat_lt 0 cell.n then record { slot = slot; cell = cell } ∷ [] else []

abbrev pub filled_from : ℕ → List Cell → List FilledCell
filled_from slot [] = []
filled_from slot (cell ∷ cells) = filled_one slot cell ++ filled_from (slot + 1) cells

-- The cells that are stored of what ends: none of a Boot.
abbrev pub stored_cells : Bool → List Cell → List FilledCell
stored_cells true cells = []
stored_cells false cells = filled_from 0 cells

-- A booking goes on from what is kept to what an entry leaves.
pub record BookingStands (inventory : InventoryState) (jobs : JobsState) (h : History) (moment : ℕ) (closer : Closer)
    (booking : Booking) : Type 0 where
  pub tick : booking.tick ≡ tick_of moment
  pub row : AreOpen (slots inventory) h booking.row.items
  pub plans : PlansStand inventory (h ▷ ended_by booking.boot moment) booking.tick jobs.jobs closer.jobs.jobs.items
      booking.plans.items
  pub monitors : MonitorsOpen inventory jobs (h ▷ ended_by booking.boot moment)
      (all_enacted closer.monitors.monitors.items booking.monitors.items)

-- Its reports are the files that the entry adds, in their order.
pub record AddsFiles (inventory : InventoryState) (jobs : JobsState) (h : History) (entry : Entry) (closer : Closer)
    (reports : List DueReport) : Type 0 where
  pub added : List Report
  pub adds : files_of (terms_of inventory) (h ▷ entry) ≡ files_of (terms_of inventory) h ++ added
  pub are : AreFiles inventory jobs.jobs closer.jobs.jobs.items added reports

-- A booking may be enacted.
pub record Suits (closer : Closer) (booking : Booking) : Type 0 where
  pub wide : length booking.row.items ≡ closer.cells.slots
  pub later : closer_tick closer ≤ booking.tick
  pub after : booking.boot ≡ false → closer_tick closer < booking.tick
  pub in_range : booking.tick < 2 ^ 57
  pub plans : PlansFit closer.cells booking.tick closer.jobs.jobs.items booking.plans.items
  pub as_many : length booking.monitors.items ≡ length closer.monitors.monitors.items
  pub go_on : AllGoOn closer.cells booking.tick (all_enacted closer.monitors.monitors.items booking.monitors.items)

-- What was taken for a plan is what it makes.
pub record IsPrepared (inventory : InventoryState) (closer : Closer) (plan : Plan) (made : Prepared) : Type 0 where
  pub job : ComesWith inventory (closer_tick closer) plan made.job
  pub monitor : IsFor inventory (closer_tick closer) plan made.monitor
  pub goes_on : IfSome made.monitor (GoesOn closer.cells (closer_tick closer))

-- ---- entries that end nothing

-- What is kept stays with an entry that has no item, and with a subscription that comes or goes.
pub record CloserStays : Type 0 where
  pub unstored : (inventory : InventoryState) (jobs : JobsState) (h : History) (e : Entry) (closer : Closer)
      → IsUnstored h e → CloserStands inventory jobs h closer → CloserStands inventory jobs (h ▷ e) closer
  pub subscribed : (inventory : InventoryState) (jobs : JobsState) (h : History) (moment : ℕ) (id : List ℕ) (port : ℕ) (path : List ℕ)
      (closer : Closer)
      → MayFollow h (Subscribed moment id port path)
      → CloserStands inventory jobs h closer → CloserStands inventory jobs (h ▷ Subscribed moment id port path) closer
  pub unsubscribed : (inventory : InventoryState) (jobs : JobsState) (h : History) (moment : ℕ) (id : List ℕ) (closer : Closer)
      → MayFollow h (Unsubscribed moment id)
      → CloserStands inventory jobs h closer → CloserStands inventory jobs (h ▷ Unsubscribed moment id) closer
