use Rattle.std.proofs.Common.{◌≡◌, ◌≤◌, ℕ, length}
use Rattle.pm_inventory.specs.Inventory.{InventoryState}
use Rattle.pm_history.specs.declared.entry.Entry.TheVariants.{Now}
use Rattle.pm_history.specs.History.{History, ◌▷◌}
use Rattle.pm_jobs.specs.State.{ids}
use Rattle.pm_close.specs.OpenMonitors.{AllGoOn, MonitorsOpen, AreKept}
use Rattle.pm_close.specs.MonitorPlans.{EndsWithNow, AreCrossings, all_enacted}
use Rattle.pm_close.proofs.open_monitors_book.end_ticks.Given as goal

abbrev pub invariant-loop-t : goal.invariant-loop-t
invariant-loop-t l = record {
  as_many : length l.plans ≡ length l.fn.plans;
  from : l.open_tick ≤ l.t;
  go_on : AllGoOn l.kept l.t (all_enacted l.monitors l.plans);
  stand : (inventory : InventoryState) (h : History) (m : ℕ)
      → EndsWithNow inventory l.jobs h m l.kept l.row l.cut l.tick
      → MonitorsOpen inventory l.jobs h (all_enacted l.monitors l.fn.plans)
      → AreKept inventory (h ▷ Now m) l.t (ids l.jobs.monitors) (all_enacted l.monitors l.plans);
  crossed : (inventory : InventoryState) (h : History) (m : ℕ)
      → EndsWithNow inventory l.jobs h m l.kept l.row l.cut l.tick
      → MonitorsOpen inventory l.jobs h (all_enacted l.monitors l.fn.plans)
      → AreCrossings inventory l.jobs (h ▷ Now m) l.open_tick l.t l.ends.items;
}
