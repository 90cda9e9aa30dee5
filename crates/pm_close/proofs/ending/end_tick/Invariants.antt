use Rattle.std.proofs.Common.{◌≡◌, ◌≤◌, ◌<◌, ◌+◌, ◌++◌, ℕ, List, length, take, slice_index_or}
use Rattle.pm_inventory.specs.Inventory.{InventoryState}
use Rattle.pm_history.specs.declared.entry.Entry.TheVariants.{Now}
use Rattle.pm_history.specs.History.{History, ◌▷◌}
use Rattle.pm_history.specs.Files.{Report}
use Rattle.pm_jobs.specs.declared.standing.Standing.{Standing}
use Rattle.pm_close.specs.declared.open_job.OpenJob.{OpenJob}
use Rattle.pm_close.specs.declared.report.OpenReport.{OpenReport}
use Rattle.pm_close.specs.OpenJobs.{StandsAt, PlanFits, earlier_parts}
use Rattle.pm_close.specs.DueReports.{AreAmong, AreFiles, files_with, TickEnds}
use Rattle.pm_close.proofs.ending.end_tick.Given as goal

abbrev pub invariant-loop-k : goal.invariant-loop-k
invariant-loop-k l = record {
  as_many : length l.plans ≡ length l.fn.plans;
  later : (j : ℕ) (d : OpenReport) → l.k ≤ j → slice_index_or l.plans j d ≡ slice_index_or l.fn.plans j d;
  fits : (j : ℕ) (plan : OpenReport) → j < l.k → (job : OpenJob)
      → PlanFits l.kept (l.tick + 1) (slice_index_or l.open_jobs j job) (slice_index_or l.plans j plan);
  among : AreAmong (length l.jobs.jobs) l.fn.reports.items → AreAmong (length l.jobs.jobs) l.reports.items;
  stands : (inventory : InventoryState) (h : History) (m : ℕ) → TickEnds inventory h m l.kept l.row l.cut l.tick l.jobs.jobs l.open_jobs l.fn.plans
      → (j : ℕ) (plan : OpenReport) → j < l.k → (s : Standing) (job : OpenJob)
      → StandsAt inventory (h ▷ Now m) (slice_index_or l.jobs.jobs j s) (l.tick + 1)
      (earlier_parts (slice_index_or l.open_jobs j job) (slice_index_or l.plans j plan).earlier) (slice_index_or l.plans j plan);
  files : (inventory : InventoryState) (h : History) (m : ℕ) (files : List Report) → TickEnds inventory h m l.kept l.row l.cut l.tick l.jobs.jobs l.open_jobs l.fn.plans
      → AreFiles inventory l.jobs.jobs l.open_jobs files l.fn.reports.items
      → AreFiles inventory l.jobs.jobs l.open_jobs
      (files ++ files_with inventory (take l.k l.jobs.jobs) (h ▷ Now m) (l.tick + 1)) l.reports.items;
}
