-- What is kept of the monitors, before and after what ends ticks.
use Rattle.std.proofs.Common.{◌≡◌, ◌≤◌, ◌<◌, ◌∷◌, [], ℕ, suc, Bool, true, false, List, length, max, slice_index_or, refl, sym, ap, subst, arith}
use Rattle.pm_base.specs.Moment.{tick_of}
use Rattle.pm_meas.specs.declared.cell.Cell.{Cell}
use Rattle.pm_inventory.specs.Inventory.{InventoryState}
use Rattle.pm_history.specs.declared.entry.Entry.TheVariants.{Boot}
use Rattle.pm_history.specs.History.{History, Start, ◌▷◌, IsHistory, size}
use Rattle.pm_jobs.specs.State.{JobsState, ids}
use Rattle.pm_jobs.specs.Stands.{Stands}
use Rattle.pm_close.specs.declared.cells.TickCells.{TickCells}
use Rattle.pm_close.specs.declared.open_monitors.KeptMonitor.{KeptMonitor}
use Rattle.pm_close.specs.declared.open_monitors_plan.MonitorPlan.{MonitorPlan}
use Rattle.pm_close.specs.Watched.{AllWithin}
use Rattle.pm_close.specs.OpenMonitors.{AllGoOn, AllReachTo, NeedsFrom, AreKept, MonitorsOpen}
use Rattle.pm_close.specs.MonitorPlans.{EndsWithNow, all_enacted}
use Rattle.pm_close.specs.ClosedMonitors.{MonitorsEnd}

pub monitors-reach : (cells : TickCells) (from tick : ℕ) (monitors : List KeptMonitor) → from ≤ tick → AllGoOn cells from monitors
    → AllReachTo tick monitors
monitors-reach cells from tick monitors le on k d lt =
    let was = on k d lt in
    let reach = was.reach in
    record { few = was.few; marks = was.marks; reach = omega (arith, reach, le) }

pub monitors-go_on : (cells later : TickCells) (first tick : ℕ) (monitors : List KeptMonitor)
    → later.slots ≡ cells.slots → later.first ≡ max cells.first first → NeedsFrom first monitors
    → AllGoOn cells tick monitors → AllGoOn later tick monitors
monitors-go_on cells later first tick monitors same from needs on k d lt =
    let was = on k d lt in
    let need = needs k d lt in
    record {
      few = was.few;
      marks = was.marks;
      reach = was.reach;
      covered = λ j within before. was.covered j within (omega (arith, before, from, need));
      within = subst (λ n. AllWithin n (slice_index_or monitors k d).open.watches.metrics.items) (sym same) was.within;
    }

pub length-enacted : (monitors : List KeptMonitor) (plans : List MonitorPlan) → length (all_enacted monitors plans) ≡ length monitors
length-enacted [] plans = refl
length-enacted (m ∷ ms) [] = refl
length-enacted (m ∷ ms) (plan ∷ plans) = ap suc (length-enacted ms plans)

-- nothing stands where there was nothing yet
none-kept : (inventory : InventoryState) (h : History) (tick : ℕ) (monitors : List KeptMonitor) → AreKept inventory h tick [] monitors
    → monitors ≡ []
none-kept inventory h tick [] kept = refl
none-kept inventory h tick (m ∷ ms) kept = absurd kept

pub boot-open : (inventory : InventoryState) (jobs : JobsState) (h : History) (m : ℕ) (monitors : List KeptMonitor)
    (plans : List MonitorPlan)
    → Stands inventory jobs h → MonitorsOpen inventory jobs h monitors
    → (0 < size h → MonitorsOpen inventory jobs (h ▷ Boot m) (all_enacted monitors plans))
    → MonitorsOpen inventory jobs (h ▷ Boot m) (all_enacted monitors plans)
boot-open inventory jobs Start m monitors plans stands kept some =
    let none : ids jobs.monitors ≡ [] = stands.of_monitors.listed in
    let empty : monitors ≡ [] =
    none-kept inventory Start (tick_of 0) monitors (subst (λ is. AreKept inventory Start (tick_of 0) is monitors) none kept) in
    subst (λ ms. MonitorsOpen inventory jobs (Start ▷ Boot m) (all_enacted ms plans)) (sym empty)
    (subst (λ is. AreKept inventory (Start ▷ Boot m) (tick_of m) is []) (sym none) tt)
boot-open inventory jobs (h ▷ e) m monitors plans stands kept some = some (omega arith)

pub ends-now : (inventory : InventoryState) (jobs : JobsState) (h : History) (m : ℕ) (boot : Bool) (kept : TickCells) (row : List Cell)
    (cut : Bool) (tick : ℕ) → boot ≡ false → MonitorsEnd inventory jobs h m boot kept row cut tick
    → EndsWithNow inventory jobs h m kept row cut tick
ends-now inventory jobs h m true kept row cut tick at ends = absurd cc
ends-now inventory jobs h m false kept row cut tick at ends = record {
  history = ends.history;
  stands = ends.stands;
  cells = ends.cells;
  open_tick = ends.open_tick;
  cut_is = ends.cut_is;
  up_to = ends.up_to;
}

pub booted : (inventory : InventoryState) (jobs : JobsState) (h : History) (m : ℕ) (boot : Bool) (kept : TickCells) (row : List Cell)
    (cut : Bool) (tick : ℕ) → boot ≡ true → MonitorsEnd inventory jobs h m boot kept row cut tick → IsHistory (h ▷ Boot m)
booted inventory jobs h m true kept row cut tick at ends = ends.history
booted inventory jobs h m false kept row cut tick at ends = absurd cc
