use Rattle.std.proofs.Common.{◌≡◌, ◌+◌, ℕ, [], length}
use Rattle.pm_base.specs.Moment.{tick_of}
use Rattle.pm_inventory.specs.Inventory.{InventoryState}
use Rattle.pm_history.specs.declared.entry.Entry.TheVariants.{Now}
use Rattle.pm_history.specs.History.{History, ◌▷◌, last_moment}
use Rattle.pm_history.specs.Ticks.{behind}
use Rattle.pm_close.specs.OpenJobs.{PlansFit, PlansStand}
use Rattle.pm_close.specs.DueReports.{AreAmong, AreFiles, files_with, TicksEnd}
use Rattle.pm_close.proofs.ending.end_ticks.Given as goal

abbrev pub invariant-loop-t : goal.invariant-loop-t
invariant-loop-t l = record {
  fits : PlansFit l.kept l.t l.open_jobs l.plans;
  among : AreAmong (length l.jobs.jobs) l.fn.reports.items → AreAmong (length l.jobs.jobs) l.reports.items;
  stands : (inventory : InventoryState) (h : History) (m : ℕ)
      → TicksEnd inventory h m l.kept l.row l.cut l.tick l.jobs.jobs l.open_jobs l.fn.plans
      → PlansStand inventory (h ▷ Now m) l.t l.jobs.jobs l.open_jobs l.plans;
  files : (inventory : InventoryState) (h : History) (m n : ℕ)
      → TicksEnd inventory h m l.kept l.row l.cut l.tick l.jobs.jobs l.open_jobs l.fn.plans
      → l.t ≡ tick_of (last_moment h) + n → l.fn.reports.items ≡ []
      → AreFiles inventory l.jobs.jobs l.open_jobs (behind (files_with inventory l.jobs.jobs (h ▷ Now m)) (tick_of (last_moment h)) n)
      l.reports.items;
}
