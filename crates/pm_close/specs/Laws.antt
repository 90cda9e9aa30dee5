-- What stays, whatever comes next.
use Rattle.std.specs.Prelude.{ℕ, suc, ◌++◌, ◌∷◌, if◌then◌else◌, ◌+◌, ◌*◌, ◌<◌, ◌≤◌, ◌≡◌, false, List, [], Some}
use Rattle.pm_base.specs.Moment.{tick_of}
use Rattle.pm_inventory.specs.Inventory.{SlotKey}
use Rattle.pm_history.specs.declared.entry.Side.{Side}
use Rattle.pm_history.specs.declared.entry.Side.TheVariants.{Job}
use Rattle.pm_history.specs.declared.entry.Entry.{Entry}
use Rattle.pm_history.specs.declared.entry.Entry.TheVariants.{Boot, Now}
use Rattle.pm_meas.specs.declared.cell.Cell.{Cell}
use Rattle.pm_history.specs.Entry.{moment_of}
use Rattle.pm_history.specs.History.{History, ◌▷◌, IsHistory, size, last_moment, before}
use Rattle.pm_history.specs.Terms.{Terms, Watched, reporting}
use Rattle.pm_history.specs.Ticks.{behind}
use Rattle.pm_history.specs.Standing.{Making, Standing, making_of, standing_after}
use Rattle.pm_history.specs.Counted.{is_counted}
use Rattle.pm_history.specs.Files.{file_of, files_at}
use Rattle.pm_history.specs.Notices.{value_at}
use Rattle.pm_history.specs.Value.{measured_value, is_suspect}
use Rattle.pm_history.specs.declared.metric.Metric.{Metric}
use Rattle.pm_close.specs.declared.cells.TickCells.{TickCells}
use Rattle.pm_close.specs.declared.marks.Marks.{Marks}
use Rattle.pm_close.specs.declared.part.PartValues.{PartValues}
use Rattle.pm_close.specs.declared.report.Due.{Due}
use Rattle.pm_close.specs.declared.report.OpenReport.{OpenReport}
use Rattle.pm_close.specs.Cells.{CellsStand, AreOpen}
use Rattle.pm_close.specs.Marks.{MarksStand, PeriodStands}
use Rattle.pm_close.specs.Values.{KnowsCells}
use Rattle.pm_close.specs.Reports.{ReportStands, DueStands}
use Rattle.pm_close.specs.Files.{report_with}
use Rattle.pm_close.specs.Flags.{taken}
use Rattle.pm_close.specs.declared.monitor.OpenMonitor.{OpenMonitor}
use Rattle.pm_close.specs.Watched.{MonitorStands}

-- Kept cells stand as well after an entry in the tick of the last moment.
abbrev pub CellsStay : Type 0
CellsStay =
    (slots : List SlotKey) (h : History) (e : Entry) (kept : TickCells)
    → last_moment h ≤ moment_of e → tick_of (moment_of e) ≡ tick_of (last_moment h)
    → CellsStand slots h kept → CellsStand slots (h ▷ e) kept

-- Marks of ticks that are over stand as well after any entry.
abbrev pub MarksStay : Type 0
MarksStay =
    (terms : Side → List ℕ → Terms) (h : History) (e : Entry) (w : Making) (granularity tick : ℕ) (marks : Marks)
    → last_moment h ≤ moment_of e → tick ≤ tick_of (last_moment h)
    → MarksStand terms h w granularity tick marks → MarksStand terms (h ▷ e) w granularity tick marks

-- No tick that a Boot ends is counted.
abbrev pub BootCountsNone : Type 0
BootCountsNone =
    (terms : Side → List ℕ → Terms) (h : History) (m : ℕ) (w : Making) (t : ℕ)
    → 0 < size h → tick_of (last_moment h) ≤ t → t < tick_of m → is_counted terms (h ▷ Boot m) w t ≡ false

-- With kept cells and the row of the open tick, the cells of all ticks that a Now or a Boot ends are known.
pub record CellsKnown : Type 0 where
  pub now : (slots : List SlotKey) (h : History) (m : ℕ) (kept : TickCells) (row : List Cell)
      → IsHistory h → AreOpen slots h row → CellsStand slots h kept → KnowsCells slots (h ▷ Now m) kept row
  pub boot : (slots : List SlotKey) (h : History) (m : ℕ) (kept : TickCells) (row : List Cell)
      → IsHistory h → AreOpen slots h row → CellsStand slots h kept → KnowsCells slots (h ▷ Boot m) kept row

-- What is kept of a job stands as well after any entry.
abbrev pub ReportsStay : Type 0
ReportsStay =
    (terms : Side → List ℕ → Terms) (h : History) (e : Entry) (w : Making) (t : Terms) (tick : ℕ) (earlier : List PartValues)
    (report : OpenReport)
    → last_moment h ≤ moment_of e → tick ≤ tick_of (last_moment h)
    → ReportStands terms h w t tick earlier report → ReportStands terms (h ▷ e) w t tick earlier report

-- What is kept of a monitor stands as well after any entry that doesn't arm it again.
abbrev pub MonitorsStay : Type 0
MonitorsStay =
    (terms : Side → List ℕ → Terms) (slots : List SlotKey) (h : History) (e : Entry) (w : Making) (granularity : ℕ)
    (watched : List Watched) (armed tick : ℕ) (monitor : OpenMonitor)
    → last_moment h ≤ moment_of e → tick ≤ tick_of (last_moment h)
    → MonitorStands terms slots h w granularity watched armed tick monitor
    → MonitorStands terms slots (h ▷ e) w granularity watched armed tick monitor

-- A report that is due is the file of the job at that end, where some tick of it is counted.
abbrev pub DueIsFile : Type 0
DueIsFile =
    (terms : Side → List ℕ → Terms) (h : History) (id : List ℕ) (s : Standing) (end : ℕ) (earlier : List PartValues) (due : Due)
    → DueStands terms h (making_of Job id s) (terms Job s.body) end earlier due
    → file_of terms h id end (Some s)
    ≡ (if due.counted then report_with id (terms Job s.body) due.begin (earlier ++ due.parts.items) ∷ [] else [])

-- A value sequence takes of a granularity period that ends its value, unless that is null or suspect.
abbrev pub SequencesTakeValues : Type 0
SequencesTakeValues =
    (terms : Side → List ℕ → Terms) (h : History) (w : Making) (granularity object : ℕ) (m : Metric) (end : ℕ) (period : Marks)
    → PeriodStands terms h w granularity end period
    → value_at terms h w granularity object m end
    ≡ taken (measured_value terms h w object m period.begin granularity) (is_suspect terms h w period.begin granularity)

-- Where there are no files: at an end at which each reporting period lies wholly in a stretch of ticks that aren't counted; so
-- of the
-- ends that come with a Boot, a job has a file at most at that of the reporting period that was open.
pub record GapsHaveNoFiles : Type 0 where
  pub stretch : (terms : Side → List ℕ → Terms) (h : History) (end a b : ℕ)
      → ((w : Making) (t : ℕ) → a ≤ t → t < b → is_counted terms h w t ≡ false)
      → ((id : List ℕ) (s : Standing) → standing_after terms Job (before (60 * end) h) id ≡ Some s
      → a + reporting (terms Job s.body) ≤ end)
      → end ≤ b
      → files_at terms h end ≡ []
  pub item : (terms : Side → List ℕ → Terms) (h : History) (m : ℕ) (id : List ℕ) (end periods ends : ℕ) (s : Standing)
      → 0 < size h
      → periods * reporting (terms Job s.body) ≤ tick_of (last_moment h)
      → end ≡ ends * reporting (terms Job s.body) → suc (suc periods) ≤ ends
      → tick_of (last_moment h) < suc periods * reporting (terms Job s.body)
      → end ≤ tick_of m
      → file_of terms (h ▷ Boot m) id end (Some s) ≡ []
  pub all : (terms : Side → List ℕ → Terms) (h : History) (m late k : ℕ) → 0 < size h
      → ((id : List ℕ) (s : Standing) (end : ℕ) → late < end → end ≤ late + k
      → standing_after terms Job (before (60 * end) (h ▷ Boot m)) id ≡ Some s
      → tick_of (last_moment h) + reporting (terms Job s.body) ≤ end)
      → late + k ≤ tick_of m
      → behind (files_at terms (h ▷ Boot m)) late k ≡ []
