-- Reports that are due, as files of a history.
use Rattle.std.specs.Prelude.{ℕ, ◌+◌, ◌<◌, ◌≤◌, ◌≡◌, ◌==◌, Bool, List, [], ◌∷◌, ◌++◌, length, map, if◌then◌else◌, Option, Some, None, insert, slice_index_or, true, false}
use Rattle.std.specs.List.{flat_map}
use Rattle.pm_base.specs.Moment.{tick_of}
use Rattle.pm_meas.specs.declared.cell.Cell.{Cell}
use Rattle.pm_inventory.specs.Inventory.{InventoryState, slots}
use Rattle.pm_history.specs.declared.entry.Side.TheVariants.{Job}
use Rattle.pm_history.specs.declared.entry.Entry.{Entry}
use Rattle.pm_history.specs.declared.entry.Entry.TheVariants.{Boot, Now}
use Rattle.pm_history.specs.History.{History, ◌▷◌, IsHistory, is_cut, last_moment}
use Rattle.pm_history.specs.Files.{Report, file_at}
use Rattle.pm_asked.specs.Asked.{terms_of}
use Rattle.pm_jobs.specs.declared.standing.Standing.{Standing}
use Rattle.pm_jobs.specs.Stands.{SideStands}
use Rattle.pm_close.specs.declared.cells.TickCells.{TickCells}
use Rattle.pm_close.specs.declared.report.Due.{Due}
use Rattle.pm_close.specs.declared.report.OpenReport.{OpenReport}
use Rattle.pm_close.specs.declared.due_report.DueReport.{DueReport}
use Rattle.pm_close.specs.declared.open_job.OpenJob.{OpenJob}
use Rattle.pm_close.specs.Values.{KnowsCells}
use Rattle.pm_close.specs.Files.{report_with}
use Rattle.pm_close.specs.OpenJobs.{earlier_parts, AreAsked, PlansStand}

-- What is due of a report that ended: it, where some tick of it is counted.
abbrev pub due_of : ℕ → ℕ → ℕ → Option Due → Option DueReport
due_of job end earlier None = None
due_of job end earlier (Some due) = if due.counted then Some (record { job = job; end = end; earlier = earlier; due = due }) else None

-- A report that is due, as the file of its job.
abbrev pub file_by : InventoryState → Standing → OpenJob → DueReport → Report
file_by inventory s job report =
    report_with s.id (terms_of inventory Job s.body) report.due.begin (earlier_parts job report.earlier ++ report.due.parts.items)

-- The file of a job, if its report is due.
abbrev pub files_by : InventoryState → Standing → OpenJob → Option DueReport → List Report
files_by inventory s job None = []
files_by inventory s job (Some report) = file_by inventory s job report ∷ []

-- The same at an end.
abbrev pub files_by_at : InventoryState → Standing → OpenJob → ℕ → Option DueReport → List Report
files_by_at inventory s job end None = []
files_by_at inventory s job end (Some report) = if report.end == end then file_by inventory s job report ∷ [] else []

-- A report that is due, as the file of the job at its place.
abbrev pub file_among : InventoryState → List Standing → List OpenJob → Standing → OpenJob → DueReport → Report
file_among inventory jobs kept s job report =
    file_by inventory (slice_index_or jobs report.job s) (slice_index_or kept report.job job) report

-- A request ends a tick: its cells are known, and whether a Boot cuts it.
pub record NowEnds (inventory : InventoryState) (h : History) (m : ℕ) (kept : TickCells) (row : List Cell) (cut : Bool) (tick : ℕ) : Type 0 where
  pub is : IsHistory h
  pub knows : KnowsCells (slots inventory) (h ▷ Now m) kept row
  pub from : tick_of (last_moment h) ≤ tick
  pub to : tick < tick_of m
  pub boots : is_cut h tick ≡ cut

-- A start of the program ends ticks up to this one.
pub record BootEnds (inventory : InventoryState) (h : History) (m : ℕ) (kept : TickCells) (row : List Cell) (tick : ℕ) : Type 0 where
  pub is : IsHistory h
  pub knows : KnowsCells (slots inventory) (h ▷ Boot m) kept row
  pub from : tick_of (last_moment h) ≤ tick
  pub to : tick_of m ≡ tick

-- Each is of one of so many jobs.
abbrev pub AreAmong : ℕ → List DueReport → Type 0
AreAmong jobs reports = (k : ℕ) (report : DueReport) → k < length reports → (slice_index_or reports k report).job < jobs

abbrev pub ends_of : List DueReport → List ℕ
ends_of reports = map (λ (report : DueReport). report.end) reports

abbrev pub report_ends : List Report → List ℕ
report_ends files = map (λ (file : Report). file.end) files

-- Reports are these files, of the jobs at their places.
pub record AreFiles (inventory : InventoryState) (jobs : List Standing) (kept : List OpenJob) (files : List Report)
    (reports : List DueReport) : Type 0 where
  pub told : (s : Standing) (job : OpenJob) → map (file_among inventory jobs kept s job) reports ≡ files
  pub ends : ends_of reports ≡ report_ends files

-- The files of all jobs at an end.
abbrev pub files_with : InventoryState → List Standing → History → ℕ → List Report
files_with inventory jobs h end = flat_map (λ (s : Standing). file_at (terms_of inventory) h end s.id) jobs

-- A request ends one more tick for all jobs, whose plans stand.
pub record TickEnds (inventory : InventoryState) (h : History) (m : ℕ) (kept : TickCells) (row : List Cell) (cut : Bool) (tick : ℕ)
    (jobs : List Standing) (open_jobs : List OpenJob) (plans : List OpenReport) : Type 0 where
  pub now : NowEnds inventory h m kept row cut tick
  pub stands : SideStands inventory Job jobs h
  pub asked : AreAsked inventory jobs open_jobs
  pub plans_stand : PlansStand inventory (h ▷ Now m) tick jobs open_jobs plans

-- The report stands after all that end no later.
abbrev pub IsPutByEnd : List DueReport → Option DueReport → List DueReport → Type 0
IsPutByEnd old None new = new ≡ old
IsPutByEnd old (Some report) new =
    (place : ℕ) × (place ≤ length old) × (new ≡ insert old place report)
    × ((k : ℕ) (d : DueReport) → k < place → (slice_index_or old k d).end ≤ report.end)
    × ((d : DueReport) → place < length old → report.end < (slice_index_or old place d).end)

-- A request ends ticks up to this one for all jobs: likewise, from the tick of the last moment on.
pub record TicksEnd (inventory : InventoryState) (h : History) (m : ℕ) (kept : TickCells) (row : List Cell) (cut : Bool) (tick : ℕ)
    (jobs : List Standing) (open_jobs : List OpenJob) (plans : List OpenReport) : Type 0 where
  pub is : IsHistory h
  pub knows : KnowsCells (slots inventory) (h ▷ Now m) kept row
  pub reach : kept.first + kept.ticks ≡ tick_of (last_moment h)
  pub to : tick ≡ tick_of m
  pub boots : is_cut h (tick_of (last_moment h)) ≡ cut
  pub stands : SideStands inventory Job jobs h
  pub asked : AreAsked inventory jobs open_jobs
  pub plans_stand : PlansStand inventory (h ▷ Now m) (tick_of (last_moment h)) jobs open_jobs plans

-- A start of the program ends ticks up to this one for all jobs.
pub record GapEnds (inventory : InventoryState) (h : History) (m : ℕ) (kept : TickCells) (row : List Cell) (tick : ℕ)
    (jobs : List Standing) (open_jobs : List OpenJob) (plans : List OpenReport) : Type 0 where
  pub boot : BootEnds inventory h m kept row tick
  pub stands : SideStands inventory Job jobs h
  pub asked : AreAsked inventory jobs open_jobs
  pub plans_stand : PlansStand inventory (h ▷ Boot m) (tick_of (last_moment h)) jobs open_jobs plans

-- The entry that ends ticks: a Boot, or a Now.
abbrev pub ended_by : Bool → ℕ → Entry
ended_by true moment = Boot moment
ended_by false moment = Now moment

-- Either ends ticks up to this one for all jobs.
pub record AllEnd (inventory : InventoryState) (h : History) (m : ℕ) (boot : Bool) (kept : TickCells) (row : List Cell) (cut : Bool)
    (tick : ℕ) (jobs : List Standing) (open_jobs : List OpenJob) (plans : List OpenReport) : Type 0 where
  pub is : IsHistory h
  pub knows : KnowsCells (slots inventory) (h ▷ ended_by boot m) kept row
  pub reach : kept.first + kept.ticks ≡ tick_of (last_moment h)
  pub to : tick ≡ tick_of m
  pub boots : is_cut h (tick_of (last_moment h)) ≡ cut
  pub stands : SideStands inventory Job jobs h
  pub asked : AreAsked inventory jobs open_jobs
  pub plans_stand : PlansStand inventory (h ▷ ended_by boot m) (tick_of (last_moment h)) jobs open_jobs plans
