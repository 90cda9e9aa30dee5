-- The reports of the held files, and how a run ends (this project's own).
use Rattle.std.specs.Prelude.{◌≡◌, ◌⊎◌, ℕ, List, [], ◌++◌, length, take, slice_get, Some, Ok}
use Rattle.pm_base.specs.Lines.{lines_of}
use Rattle.pm_base.specs.declared.code.Code.TheVariants.{Z1}
use Rattle.pm_disk.specs.Moments.{Told}
use Rattle.pm_form.specs.Form.{text_says}
use Rattle.pm_file.specs.Content.{ReportContent}
use Rattle.pm_file.specs.ReportForm.{report_form}
use Rattle.pm_collect.specs.Stored.{HeldFile}
use Rattle.pm_collect.specs.Places.{AreRows, text_in}
use Rattle.pm_collect.specs.Collector.{HasFiles}
use Rattle.pm_collect.specs.Opening.{RefusesToOpen}
use Rattle.pm_collect.specs.declared.error.CollectError.TheVariants as collect
use Rattle.pm_kpi.specs.Ratio.{RatioContent}
use Rattle.pm_kpi.specs.Rows.{AskedContent}
use Rattle.pm_kpi.specs.Output.{IsOutput}
use Rattle.pm_kpi.specs.Input.{AddsLines, IsRefused}
use Rattle.pm_kpi.specs.declared.by.By.{By}
use Rattle.pm_kpi.specs.declared.kpi_end.KpiEnd.{KpiEnd}
use Rattle.pm_kpi.specs.declared.kpi_end.KpiEnd.TheVariants.{Done, BadInput, ReadFault, WriteFault, StoreFault, Foreign, Garbled, Memory}

-- The report is what the file says that has the name at this place among the rows.
pub record IsReportAt (files : List HeldFile) (rows : List (List ℕ × ℕ)) (place : ℕ) (report : ReportContent) : Type 0 where
  pub name : List ℕ
  pub text : List ℕ
  pub row : slice_get rows place ≡ Some (name, length text)
  pub held : text_in files name ≡ Some text
  pub says : text_says report_form text ≡ Ok report

-- The reports are those at the first places.
pub record AreFirst (files : List HeldFile) (rows : List (List ℕ × ℕ)) (reports : List ReportContent) (count : ℕ) : Type 0 where
  pub many : length reports ≡ count
  pub each : (place : ℕ) (report : ReportContent) → slice_get reports place ≡ Some report → IsReportAt files rows place report

-- These are what the files say, each once, in byte order of their names.
pub record AreReports (files : List HeldFile) (reports : List ReportContent) : Type 0 where
  pub rows : List (List ℕ × ℕ)
  pub are : AreRows files rows
  pub first : AreFirst files rows reports (length rows)

-- The text is that of what is asked for over the files that these bytes hold.
pub record IsText (asked : AskedContent) (bytes text : List ℕ) : Type 0 where
  pub files : List HeldFile
  pub has : HasFiles bytes files
  pub reports : List ReportContent
  pub are : AreReports files reports
  pub output : IsOutput asked reports text

-- What is asked of a run, and the bytes that it goes by: those of the input, and those that were written before it and after it.
pub record Run : Type 0 where
  pub begin : ℕ
  pub end : ℕ
  pub by : By
  pub input : List ℕ
  pub before : List ℕ
  pub after : List ℕ

-- Each line of the input gives a ratio, and the text is that of these ratios.
pub record IsSummed (run : Run) (bytes text : List ℕ) : Type 0 where
  pub ratios : List RatioContent
  pub adds : AddsLines [] (lines_of run.input) ratios
  pub is_text : IsText (record { ratios = ratios; begin = run.begin; end = run.end; by = run.by }) bytes text

abbrev pub IsWritten : Run → List ℕ → Type 0
IsWritten run bytes = (text : List ℕ) × IsSummed run bytes text × (run.after ≡ run.before ++ text)

abbrev pub IsPartlyWritten : Run → List ℕ → Type 0
IsPartlyWritten run bytes = (text : List ℕ) × IsSummed run bytes text × ((n : ℕ) × (run.after ≡ run.before ++ take n text))

-- How a run ends over a disk that tells this before it and after it.
abbrev pub IsOutcome : Run → Told → Told → KpiEnd → Type 0
IsOutcome run old new Done = IsWritten run old.now.first.seen
IsOutcome run old new (BadInput place code) = (IsRefused (lines_of run.input) place code ⊎ (code ≡ Z1)) × (run.after ≡ run.before) × (new ≡ old)
IsOutcome run old new ReadFault = (run.after ≡ run.before) × (new ≡ old)
IsOutcome run old new WriteFault = IsPartlyWritten run old.now.first.seen
IsOutcome run old new StoreFault = run.after ≡ run.before
IsOutcome run old new Foreign = RefusesToOpen (Unit {0}) old new collect.Foreign × (run.after ≡ run.before)
IsOutcome run old new (Garbled offset) = RefusesToOpen (Unit {0}) old new (collect.Garbled offset) × (run.after ≡ run.before)
IsOutcome run old new Memory = run.after ≡ run.before
