use Rattle.std.proofs.Common.{◌≡◌, ◌≤◌, ◌<◌, ◌+◌, ℕ, [], length, take, slice_index_or}
use Rattle.pm_base.specs.Moment.{tick_of}
use Rattle.pm_inventory.specs.Inventory.{InventoryState}
use Rattle.pm_history.specs.declared.entry.Entry.TheVariants.{Boot}
use Rattle.pm_history.specs.History.{History, ◌▷◌, last_moment}
use Rattle.pm_history.specs.Ticks.{behind}
use Rattle.pm_jobs.specs.declared.standing.Standing.{Standing}
use Rattle.pm_close.specs.declared.open_job.OpenJob.{OpenJob}
use Rattle.pm_close.specs.declared.report.OpenReport.{OpenReport}
use Rattle.pm_close.specs.OpenJobs.{StandsAt, PlanFits, earlier_parts}
use Rattle.pm_close.specs.DueReports.{AreAmong, AreFiles, files_with, GapEnds}
use Rattle.pm_close.proofs.ending.end_gap.Given as goal

abbrev pub invariant-loop-k : goal.invariant-loop-k
invariant-loop-k l = record {
  as_many : length l.plans ≡ length l.fn.plans;
  later : (j : ℕ) (d : OpenReport) → l.k ≤ j → slice_index_or l.plans j d ≡ slice_index_or l.fn.plans j d;
  fits : (j : ℕ) (plan : OpenReport) → j < l.k → (job : OpenJob)
      → PlanFits l.kept l.tick (slice_index_or l.open_jobs j job) (slice_index_or l.plans j plan);
  among : AreAmong (length l.jobs.jobs) l.fn.reports.items → AreAmong (length l.jobs.jobs) l.reports.items;
  stands : (inventory : InventoryState) (h : History) (m : ℕ) → GapEnds inventory h m l.kept l.row l.tick l.jobs.jobs l.open_jobs l.fn.plans
      → (j : ℕ) (plan : OpenReport) → j < l.k → (s : Standing) (job : OpenJob)
      → StandsAt inventory (h ▷ Boot m) (slice_index_or l.jobs.jobs j s) l.tick
      (earlier_parts (slice_index_or l.open_jobs j job) (slice_index_or l.plans j plan).earlier) (slice_index_or l.plans j plan);
  files : (inventory : InventoryState) (h : History) (m n : ℕ) → GapEnds inventory h m l.kept l.row l.tick l.jobs.jobs l.open_jobs l.fn.plans
      → l.tick ≡ tick_of (last_moment h) + n → l.fn.reports.items ≡ []
      → AreFiles inventory l.jobs.jobs l.open_jobs
      (behind (files_with inventory (take l.k l.jobs.jobs) (h ▷ Boot m)) (tick_of (last_moment h)) n) l.reports.items;
}
