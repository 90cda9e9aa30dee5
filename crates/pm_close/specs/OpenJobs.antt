-- What is kept of the jobs that stand, beside them: in the same order, one for each.
use Rattle.std.specs.Prelude.{ℕ, ◌+◌, ◌<◌, ◌≡◌, List, [], length, take, slice_index_or, Some}
use Rattle.pm_base.specs.Moment.{tick_of}
use Rattle.pm_inventory.specs.Inventory.{InventoryState, slots}
use Rattle.pm_history.specs.declared.entry.Side.TheVariants.{Job}
use Rattle.pm_history.specs.History.{History, last_moment}
use Rattle.pm_history.specs.Standing as history
use Rattle.pm_history.specs.Standing.{making_of, standing_after}
use Rattle.pm_asked.specs.Asked.{terms_of}
use Rattle.pm_jobs.specs.declared.standing.Standing.{Standing}
use Rattle.pm_close.specs.declared.cells.TickCells.{TickCells}
use Rattle.pm_close.specs.declared.part.PartValues.{PartValues}
use Rattle.pm_close.specs.declared.report.OpenReport.{OpenReport}
use Rattle.pm_close.specs.declared.open_job.OpenJob.{OpenJob}
use Rattle.pm_close.specs.Values.{IsCovered}
use Rattle.pm_close.specs.Parts.{AreWithin, ReadEach, quantities_of}
use Rattle.pm_close.specs.Reports.{ReportStands}

-- ---- a job

-- Its periods and its measures are those that its body asks for.
pub record IsAsked (inventory : InventoryState) (s : Standing) (job : OpenJob) : Type 0 where
  pub granularity : (terms_of inventory Job s.body).granularity ≡ job.granularity
  pub parts : (terms_of inventory Job s.body).parts ≡ job.parts
  pub reads : ReadEach (slots inventory) job.measures.items (quantities_of (terms_of inventory Job s.body).measured)

-- A report stands for what stands under the id of a job, up to a tick.
abbrev pub StandsAt : InventoryState → History → Standing → ℕ → List PartValues → OpenReport → Type 0
StandsAt inventory h s tick earlier report =
    (made : history.Standing) → standing_after (terms_of inventory) Job h s.id ≡ Some made
    → ReportStands (terms_of inventory) h (making_of Job s.id made) (terms_of inventory Job s.body) tick earlier report

-- What is kept of a job stands for it, from its making up to the tick of the last moment.
pub record JobOpen (inventory : InventoryState) (h : History) (s : Standing) (job : OpenJob) : Type 0 where
  pub asked : IsAsked inventory s job
  pub report : StandsAt inventory h s (tick_of (last_moment h)) [] job.report

-- A plan goes on where its job is kept, up to a tick; no tick before the kept cells is counted.
pub record PlanFits (kept : TickCells) (tick : ℕ) (job : OpenJob) (plan : OpenReport) : Type 0 where
  pub within : plan.marks.count < job.granularity
  pub reach : plan.marks.begin + plan.marks.count ≡ tick
  pub covered : IsCovered kept plan.marks
  pub unfinished : plan.earlier + length plan.parts.items < job.parts

-- What is kept of a job goes with the kept cells.
pub record JobFits (kept : TickCells) (job : OpenJob) : Type 0 where
  pub within : AreWithin kept.slots job.measures.items
  pub report : PlanFits kept (kept.first + kept.ticks) job job.report

-- The parts that are kept before those of a plan.
abbrev pub earlier_parts : OpenJob → ℕ → List PartValues
earlier_parts job earlier = take earlier job.report.parts.items

-- ---- all jobs

pub record JobsOpen (inventory : InventoryState) (h : History) (jobs : List Standing) (kept : List OpenJob) : Type 0 where
  pub as_many : length kept ≡ length jobs
  pub each : (k : ℕ) (s : Standing) (job : OpenJob) → k < length jobs
      → JobOpen inventory h (slice_index_or jobs k s) (slice_index_or kept k job)

abbrev pub JobsFit : TickCells → List OpenJob → Type 0
JobsFit kept jobs = (k : ℕ) (job : OpenJob) → k < length jobs → JobFits kept (slice_index_or jobs k job)

pub record PlansFit (kept : TickCells) (tick : ℕ) (jobs : List OpenJob) (plans : List OpenReport) : Type 0 where
  pub as_many : length plans ≡ length jobs
  pub each : (k : ℕ) (job : OpenJob) (plan : OpenReport) → k < length jobs
      → PlanFits kept tick (slice_index_or jobs k job) (slice_index_or plans k plan)

-- The plans of all jobs stand up to a tick, with the parts that are kept before theirs.
abbrev pub PlansStand : InventoryState → History → ℕ → List Standing → List OpenJob → List OpenReport → Type 0
PlansStand inventory h tick jobs kept plans =
    (k : ℕ) (s : Standing) (job : OpenJob) (plan : OpenReport) → k < length jobs
    → StandsAt inventory h (slice_index_or jobs k s) tick
    (earlier_parts (slice_index_or kept k job) (slice_index_or plans k plan).earlier) (slice_index_or plans k plan)

-- The open reports of all jobs go with the kept cells; and stand up to a tick.
abbrev pub ReportsFit : TickCells → ℕ → List OpenJob → Type 0
ReportsFit kept tick jobs =
    (k : ℕ) (job : OpenJob) → k < length jobs
    → PlanFits kept tick (slice_index_or jobs k job) (slice_index_or jobs k job).report

abbrev pub ReportsStand : InventoryState → History → ℕ → List Standing → List OpenJob → Type 0
ReportsStand inventory h tick jobs kept =
    (k : ℕ) (s : Standing) (job : OpenJob) → k < length jobs
    → StandsAt inventory h (slice_index_or jobs k s) tick [] (slice_index_or kept k job).report

-- All measures are of so many slots.
abbrev pub ReadWithin : ℕ → List OpenJob → Type 0
ReadWithin width jobs = (k : ℕ) (job : OpenJob) → k < length jobs → AreWithin width (slice_index_or jobs k job).measures.items

abbrev pub AreAsked : InventoryState → List Standing → List OpenJob → Type 0
AreAsked inventory jobs kept =
    (k : ℕ) (s : Standing) (job : OpenJob) → k < length jobs → IsAsked inventory (slice_index_or jobs k s) (slice_index_or kept k job)

-- Plans may be enacted.
pub record PlansSuit (jobs : List OpenJob) (plans : List OpenReport) : Type 0 where
  pub as_many : length plans ≡ length jobs
  pub within : (k : ℕ) (job : OpenJob) (plan : OpenReport) → k < length jobs
      → (slice_index_or plans k plan).marks.count < (slice_index_or jobs k job).granularity
  pub unfinished : (k : ℕ) (job : OpenJob) (plan : OpenReport) → k < length jobs
      → (slice_index_or plans k plan).earlier + length (slice_index_or plans k plan).parts.items < (slice_index_or jobs k job).parts
