-- The open reporting period of a job, and the report that is due where it ends.
use Rattle.std.specs.Prelude.{ℕ, ◌+◌, ◌*◌, ◌<◌, ◌≤◌, ◌≡◌, false, Option, Some, None, List, [], ◌++◌, length, slice_index_or}
use Rattle.pm_history.specs.declared.entry.Side.{Side}
use Rattle.pm_history.specs.History.{History}
use Rattle.pm_history.specs.Terms.{Terms, reporting}
use Rattle.pm_history.specs.Standing.{Making}
use Rattle.pm_history.specs.Counted.{some_counted}
use Rattle.pm_history.specs.Files.{is_due}
use Rattle.pm_close.specs.declared.part.PartValues.{PartValues}
use Rattle.pm_close.specs.declared.report.OpenReport.{OpenReport}
use Rattle.pm_close.specs.declared.report.Due.{Due}
use Rattle.pm_close.specs.Marks.{MarksStand}
use Rattle.pm_close.specs.Parts.{quantities_of, IsPart}

module _ (terms : Side → List ℕ → Terms) where
  -- The parts of adjoining granularity periods, the first of which begins with this tick.
  abbrev pub AreParts : History → Making → Terms → ℕ → List PartValues → Type 0
  AreParts h w t begin parts =
      (k : ℕ) (d : PartValues) → k < length parts
      → IsPart terms h w (quantities_of t.measured) (begin + k * t.granularity) t.granularity (slice_index_or parts k d)

  -- What is kept of a job stands for a history up to a tick, which is left out: the parts of its open reporting period that are
  -- finished, of which some ended earlier and are kept elsewhere; whether some tick of them is counted; and the marks of what
  -- came after.
  pub record ReportStands (h : History) (w : Making) (t : Terms) (tick : ℕ) (earlier : List PartValues)
      (report : OpenReport) : Type 0 where
    pub reports : ℕ
    pub begins : report.begin ≡ reports * reporting t
    pub earlier_are : report.earlier ≡ length earlier
    pub marks : MarksStand terms h w t.granularity tick report.marks
    pub at : report.marks.begin ≡ report.begin + length (earlier ++ report.parts.items) * t.granularity
    pub unfinished : length (earlier ++ report.parts.items) < t.parts
    pub parts : AreParts h w t report.begin (earlier ++ report.parts.items)
    pub counted : report.counted ≡ some_counted terms h w report.begin (length (earlier ++ report.parts.items) * t.granularity)

  -- The same where the last granularity period of the reporting period may have ended with the tick before this one.
  pub record ReportReaches (h : History) (w : Making) (t : Terms) (tick : ℕ) (earlier : List PartValues)
      (report : OpenReport) : Type 0 where
    pub reports : ℕ
    pub begins : report.begin ≡ reports * reporting t
    pub earlier_are : report.earlier ≡ length earlier
    pub begun : report.begin < tick
    pub marks : MarksStand terms h w t.granularity tick report.marks
    pub at : report.marks.begin ≡ report.begin + length (earlier ++ report.parts.items) * t.granularity
    pub no_more : length (earlier ++ report.parts.items) ≤ t.parts
    pub full : length (earlier ++ report.parts.items) ≡ t.parts → report.marks.count ≡ 0
    pub parts : AreParts h w t report.begin (earlier ++ report.parts.items)
    pub counted : report.counted ≡ some_counted terms h w report.begin (length (earlier ++ report.parts.items) * t.granularity)

  -- A report that ended has all parts of its reporting period; there is a file of it where some tick of them is counted.
  pub record DueStands (h : History) (w : Making) (t : Terms) (end : ℕ) (earlier : List PartValues) (due : Due) : Type 0 where
    pub reports : ℕ
    pub begins : due.begin ≡ reports * reporting t
    pub ends : due.begin + reporting t ≡ end
    pub whole : length (earlier ++ due.parts.items) ≡ t.parts
    pub parts : AreParts h w t due.begin (earlier ++ due.parts.items)
    pub counted : due.counted ≡ is_due terms h w t end

  -- With a tick no report ends; or one does, as its due says, and the next one begins.
  abbrev pub EndsTick : History → Making → Terms → ℕ → List PartValues → OpenReport → Option Due → Type 0
  EndsTick h w t end earlier report None = ReportStands h w t end earlier report × (is_due terms h w t end ≡ false)
  EndsTick h w t end earlier report (Some due) = ReportStands h w t end [] report × DueStands h w t end earlier due × (report.begin ≡ end)

  -- No report is due from after one tick up to another.
  abbrev pub NoneDue : History → Making → Terms → ℕ → ℕ → Type 0
  NoneDue h w t from tick = (end : ℕ) → from < end → end ≤ tick → is_due terms h w t end ≡ false

  -- Of ticks that aren't counted, one ends the report that was open; no report ends before it.
  pub record EndsInGap (h : History) (w : Making) (t : Terms) (from tick : ℕ) (earlier : List PartValues) (report : OpenReport)
      (due : Due) : Type 0 where
    pub end : ℕ
    pub after : from < end
    pub within : end ≤ tick
    pub ended : DueStands h w t end earlier due
    pub next : ReportStands h w t tick [] report
    pub first : (e : ℕ) → from < e → e < end → is_due terms h w t e ≡ false

  -- With ticks that aren't counted no report ends; or the one that was open does, and what is kept goes on behind them all.
  abbrev pub EndsTicks : History → Making → Terms → ℕ → ℕ → List PartValues → OpenReport → Option Due → Type 0
  EndsTicks h w t from tick earlier report None = ReportStands h w t tick earlier report × NoneDue h w t from tick
  EndsTicks h w t from tick earlier report (Some due) = EndsInGap h w t from tick earlier report due
