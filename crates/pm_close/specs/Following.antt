-- What a change of the jobs does to what is kept of them.
use Rattle.std.specs.Prelude.{ℕ, ◌+◌, ◌<◌, ◌≤◌, ◌≡◌, List, [], length, insert, remove, Option, Some, None}
use Rattle.pm_inventory.specs.Inventory.{InventoryState, slots}
use Rattle.pm_history.specs.declared.entry.Side.TheVariants.{Job}
use Rattle.pm_history.specs.History.{History}
use Rattle.pm_history.specs.Standing.{Making}
use Rattle.pm_asked.specs.Asked.{terms_of}
use Rattle.pm_jobs.specs.declared.standing.Standing.{Standing}
use Rattle.pm_jobs.specs.declared.plan.Plan.{Plan}
use Rattle.pm_jobs.specs.declared.plan.Plan.TheVariants.{Make, Delete}
use Rattle.pm_jobs.specs.Rules.{MOST_STANDING}
use Rattle.pm_jobs.specs.Stands.{Keeps}
use Rattle.pm_close.specs.declared.cells.TickCells.{TickCells}
use Rattle.pm_close.specs.declared.open_job.OpenJob.{OpenJob}
use Rattle.pm_close.specs.Marks.{NoneCounted}
use Rattle.pm_close.specs.Reports.{ReportStands}
use Rattle.pm_close.specs.OpenJobs.{IsAsked, JobFits}

-- What is kept of a job that was just made in a tick.
pub record IsFresh (inventory : InventoryState) (tick : ℕ) (s : Standing) (job : OpenJob) : Type 0 where
  pub asked : Keeps inventory Job s → IsAsked inventory s job
  pub stands : Keeps inventory Job s → (h : History) (w : Making) → NoneCounted (terms_of inventory) h w 0 tick
      → ReportStands (terms_of inventory) h w (terms_of inventory Job s.body) tick [] job.report
  pub fits : (kept : TickCells) → kept.slots ≡ length (slots inventory) → kept.first + kept.ticks ≡ tick → JobFits kept job

-- A plan that makes a job comes with what will be kept of it, and no other plan does.
abbrev pub ComesWith : InventoryState → ℕ → Plan → Option OpenJob → Type 0
ComesWith inventory tick (Make Job place s) (Some job) = IsFresh inventory tick s job
ComesWith inventory tick (Make Job place s) None = ⊥
ComesWith inventory tick plan made = made ≡ None

-- The plan may be followed.
abbrev pub CanFollow : List OpenJob → Plan → Option OpenJob → Type 0
CanFollow jobs (Make Job place s) (Some job) = (place ≤ length jobs) × (length jobs < MOST_STANDING)
CanFollow jobs (Make Job place s) None = ⊥
CanFollow jobs (Delete Job place moment) made = place < length jobs
CanFollow jobs plan made = Unit {0}

-- One more at a place, if there is one.
abbrev pub inserted : List OpenJob → ℕ → Option OpenJob → List OpenJob
inserted jobs place None = jobs
inserted jobs place (Some job) = insert jobs place job

-- What is kept once it was followed.
abbrev pub followed : List OpenJob → Plan → Option OpenJob → List OpenJob
followed jobs (Make Job place s) (Some job) = insert jobs place job
followed jobs (Delete Job place moment) made = remove jobs place
followed jobs plan made = jobs
