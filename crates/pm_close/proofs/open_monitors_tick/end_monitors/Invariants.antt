use Rattle.std.proofs.Common.{◌≡◌, ◌≤◌, ◌<◌, ◌+◌, ℕ, [], length, take, slice_index_or}
use Rattle.std.specs.List.{flat_map}
use Rattle.pm_inventory.specs.Inventory.{InventoryState}
use Rattle.pm_history.specs.declared.entry.Entry.TheVariants.{Now}
use Rattle.pm_history.specs.History.{History, ◌▷◌}
use Rattle.pm_history.specs.Notices.{crossings_under}
use Rattle.pm_asked.specs.Asked.{terms_of}
use Rattle.pm_jobs.specs.State.{ids}
use Rattle.pm_jobs.specs.Stands.{Stands}
use Rattle.pm_close.specs.declared.open_monitors.KeptMonitor.{KeptMonitor}
use Rattle.pm_close.specs.declared.open_monitors_plan.MonitorPlan.{MonitorPlan}
use Rattle.pm_close.specs.OpenMonitors.{GoesOn, IsKeptUnder, AreKept}
use Rattle.pm_close.specs.MonitorPlans.{TickEnds, all_enacted, all_told}
use Rattle.pm_close.proofs.open_monitors_tick.end_monitors.Given as goal

abbrev pub invariant-loop-k : goal.invariant-loop-k
invariant-loop-k l = record {
  as_many : length l.plans ≡ length l.fn.plans;
  later : (j : ℕ) (d : MonitorPlan) → l.k ≤ j → slice_index_or l.plans j d ≡ slice_index_or l.fn.plans j d;
  go_on : (j : ℕ) (d : KeptMonitor) → j < l.k → GoesOn l.kept (l.tick + 1) (slice_index_or (all_enacted l.monitors l.plans) j d);
  stand : (inventory : InventoryState) (h : History) (m : ℕ)
      → TickEnds inventory h m l.kept l.row l.cut l.tick → Stands inventory l.jobs h
      → AreKept inventory (h ▷ Now m) l.tick (ids l.jobs.monitors) (all_enacted l.monitors l.fn.plans)
      → (j : ℕ) (d : KeptMonitor) → j < l.k
      → IsKeptUnder inventory (h ▷ Now m) (l.tick + 1) (slice_index_or (ids l.jobs.monitors) j [])
      (slice_index_or (all_enacted l.monitors l.plans) j d);
  crossed : (inventory : InventoryState) (h : History) (m : ℕ)
      → TickEnds inventory h m l.kept l.row l.cut l.tick → Stands inventory l.jobs h
      → AreKept inventory (h ▷ Now m) l.tick (ids l.jobs.monitors) (all_enacted l.monitors l.fn.plans)
      → all_told (ids l.jobs.monitors) (l.tick + 1) l.crossings.items
      ≡ flat_map (crossings_under (terms_of inventory) (h ▷ Now m) (l.tick + 1)) (take l.k (ids l.jobs.monitors));
}
