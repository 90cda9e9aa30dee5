use Rattle.std.proofs.Common.{◌≡◌, ◌≤◌, ◌<◌, ℕ, List, [], length, drop, slice_index_or}
use Rattle.pm_inventory.specs.Inventory.{InventoryState}
use Rattle.pm_history.specs.History.{History}
use Rattle.pm_jobs.specs.declared.standing.Standing.{Standing}
use Rattle.pm_close.specs.declared.cells.TickCells.{TickCells}
use Rattle.pm_close.specs.declared.open_job.OpenJob.{OpenJob}
use Rattle.pm_close.specs.Parts.{AreWithin}
use Rattle.pm_close.specs.OpenJobs.{AreAsked, IsAsked, ReadWithin, PlansFit, PlansStand, StandsAt, PlanFits}
use Rattle.pm_close.proofs.planned.enact_all.Given as goal

abbrev pub invariant-loop-k : goal.invariant-loop-k
invariant-loop-k l = record {
  as_many : length l.jobs ≡ length l.fn.jobs;
  rest : l.plans.items ≡ drop l.k l.fn.plans.items;
  later : (j : ℕ) (d : OpenJob) → l.k ≤ j → slice_index_or l.jobs j d ≡ slice_index_or l.fn.jobs j d;
  stands : (inventory : InventoryState) (h : History) (tick : ℕ) (standing : List Standing) → length standing ≡ length l.fn.jobs
      → PlansStand inventory h tick standing l.fn.jobs l.fn.plans.items
      → (j : ℕ) (job : OpenJob) → j < l.k → (s : Standing)
      → StandsAt inventory h (slice_index_or standing j s) tick [] (slice_index_or l.jobs j job).report;
  asked : (inventory : InventoryState) (standing : List Standing) → length standing ≡ length l.fn.jobs
      → AreAsked inventory standing l.fn.jobs
      → (j : ℕ) (job : OpenJob) → j < l.k → (s : Standing) → IsAsked inventory (slice_index_or standing j s) (slice_index_or l.jobs j job);
  fits : (kept : TickCells) (tick : ℕ) → PlansFit kept tick l.fn.jobs l.fn.plans.items
      → (j : ℕ) (job : OpenJob) → j < l.k → PlanFits kept tick (slice_index_or l.jobs j job) (slice_index_or l.jobs j job).report;
  within : (width : ℕ) → ReadWithin width l.fn.jobs
      → (j : ℕ) (job : OpenJob) → j < l.k → AreWithin width (slice_index_or l.jobs j job).measures.items;
}
