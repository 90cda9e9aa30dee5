use Rattle.std.proofs.Common.{◌≡◌, ◌<◌, ℕ, List, length, slice_index_or}
use Rattle.pm_inventory.specs.Inventory.{InventoryState}
use Rattle.pm_history.specs.History.{History}
use Rattle.pm_jobs.specs.declared.standing.Standing.{Standing}
use Rattle.pm_close.specs.declared.cells.TickCells.{TickCells}
use Rattle.pm_close.specs.declared.open_job.OpenJob.{OpenJob}
use Rattle.pm_close.specs.declared.report.OpenReport.{OpenReport}
use Rattle.pm_close.specs.OpenJobs.{ReportsFit, ReportsStand, StandsAt, PlanFits, earlier_parts}
use Rattle.pm_close.proofs.planned.plan_all.Given as goal

abbrev pub invariant-loop-k : goal.invariant-loop-k
invariant-loop-k l = record {
  as_many : length l.plans.items ≡ l.k;
  fits : (kept : TickCells) (tick : ℕ) → ReportsFit kept tick l.jobs
      → (j : ℕ) (plan : OpenReport) → j < l.k → (job : OpenJob)
      → PlanFits kept tick (slice_index_or l.jobs j job) (slice_index_or l.plans.items j plan);
  stands : (inventory : InventoryState) (h : History) (tick : ℕ) (standing : List Standing) → length standing ≡ length l.jobs
      → ReportsStand inventory h tick standing l.jobs
      → (j : ℕ) (plan : OpenReport) → j < l.k → (s : Standing) (job : OpenJob)
      → StandsAt inventory h (slice_index_or standing j s) tick
      (earlier_parts (slice_index_or l.jobs j job) (slice_index_or l.plans.items j plan).earlier) (slice_index_or l.plans.items j plan);
}
