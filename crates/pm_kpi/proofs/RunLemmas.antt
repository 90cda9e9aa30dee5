-- The steps of a run, put together.
use Rattle.std.proofs.Common.{◌≡◌, ◌+◌, ℕ, zero, suc, List, [], ◌∷◌, ◌++◌, length, take, inl, inr, Option, Some, None, Result, Ok, Err, refl, sym, ◌∙◌, ap, subst, arith, length-append}
use Rattle.std.specs.Prelude.{◌⊎◌, slice_get, OnOk}
use Rattle.pm_base.specs.Lines.{lines_of}
use Rattle.pm_disk.specs.Moments.{Told}
use Rattle.pm_form.specs.Form.{text_says}
use Rattle.pm_file.specs.Content.{ReportContent}
use Rattle.pm_file.specs.ReportForm.{report_form}
use Rattle.pm_collect.specs.Stored.{HeldFile}
use Rattle.pm_collect.specs.Places.{AreRows, rows_of, text_in}
use Rattle.pm_collect.specs.Collector.{IsOpened}
use Rattle.pm_collect.specs.Opening.{RefusesToOpen}
use Rattle.pm_collect.specs.declared.collector.Collector.{Collector}
use Rattle.pm_collect.specs.declared.error.CollectError.{CollectError}
use Rattle.pm_collect.specs.declared.error.CollectError.TheVariants as collect
use Rattle.pm_kpi.specs.Ratio.{RatioContent}
use Rattle.pm_kpi.specs.Rows.{AskedContent}
use Rattle.pm_kpi.specs.Sums.{StandsFor}
use Rattle.pm_kpi.specs.Output.{IsOutput}
use Rattle.pm_kpi.specs.Input.{AddsLines, ReadsRatios}
use Rattle.pm_kpi.specs.Run.{IsReportAt, AreFirst, IsText, Run, IsOutcome}
use Rattle.pm_kpi.specs.Steps.{end_of, AddsFile, SumsFirst, RefusesStore, Writes}
use Rattle.pm_kpi.specs.declared.sums.Sums.{Sums}
use Rattle.pm_kpi.specs.declared.kpi_end.KpiEnd.{KpiEnd}
use Rattle.pm_kpi.specs.declared.kpi_end.KpiEnd.TheVariants.{Done, BadInput, ReadFault, WriteFault, StoreFault, Foreign, Garbled, Memory}

-- A file that was loaded and read is added.
pub file_added : (asked : AskedContent) (files : List HeldFile) (rows : List (List ℕ × ℕ)) (place : ℕ) (reports : List ReportContent) (text : List ℕ)
    (report : ReportContent) (sums : Sums) (r : Result (Unit {0}) KpiEnd)
    → ((name : List ℕ) × (slice_get rows place ≡ Some (name, length text)) × (text_in files name ≡ Some text)) → text_says report_form text ≡ Ok report
    → OnOk r (StandsFor asked (reports ++ report ∷ []) sums) → OnOk r (AddsFile asked files rows place reports sums)
file_added asked files rows place reports text report sums (Ok done) loaded says stands = record {
  report = report;
  is = record { name = loaded.0; text = text; row = loaded.1; held = loaded.2; says = says };
  stands = stands;
}
file_added asked files rows place reports text report sums (Err end) loaded says stands = tt

-- ---- one place more

same_some : (x y : ReportContent) → Some x ≡ Some y → x ≡ y
same_some x y is = cc

push_each : (P : ℕ → ReportContent → Type 0) (xs : List ReportContent) (y : ReportContent)
    → ((k : ℕ) (r : ReportContent) → slice_get xs k ≡ Some r → P k r) → P (length xs) y
    → (k : ℕ) (r : ReportContent) → slice_get (xs ++ y ∷ []) k ≡ Some r → P k r
push_each P [] y all last zero r is = subst (P 0) (same_some y r is) last
push_each P [] y all last (suc k) r is = cc
push_each P (x ∷ xs) y all last zero r is = all 0 r is
push_each P (x ∷ xs) y all last (suc k) r is = push_each (λ n. P (suc n)) xs y (λ j s e. all (suc j) s e) last k r is

pub none_summed : (asked : AskedContent) (files : List HeldFile) (rows : List (List ℕ × ℕ)) (sums : Sums) → StandsFor asked [] sums
    → SumsFirst asked files rows 0 sums
none_summed asked files rows sums stands = record {
  reports = [];
  first = record { many = refl; each = λ k r is. none k r is };
  stands = stands;
}
  where
    none : (k : ℕ) (r : ReportContent) → slice_get [] k ≡ Some r → IsReportAt files rows k r
    none zero r is = cc
    none (suc k) r is = cc

pub more_summed : (asked : AskedContent) (files : List HeldFile) (rows : List (List ℕ × ℕ)) (place : ℕ) (old new : Sums)
    (first : SumsFirst asked files rows place old) → AddsFile asked files rows place first.reports new → SumsFirst asked files rows (place + 1) new
more_summed asked files rows place old new first adds = record {
  reports = first.reports ++ adds.report ∷ [];
  first = record {
    many = omega (arith, first.first.many, length-append first.reports (adds.report ∷ []));
    each =
        push_each (IsReportAt files rows) first.reports adds.report first.first.each
        (subst (λ (n : ℕ). IsReportAt files rows n adds.report) (sym first.first.many) adds.is);
  };
  stands = adds.stands;
}

-- ---- the store

pub text_told : (asked : AskedContent) (old new : Told) (collector : Collector) (sums : Sums) (text : List ℕ)
    (opened : IsOpened old.now new.now collector) → AreRows opened.files (rows_of collector.names)
    → (first : SumsFirst asked opened.files (rows_of collector.names) (length (rows_of collector.names)) sums)
    → IsOutput asked first.reports text → IsText asked old.now.first.seen text
text_told asked old new collector sums text opened rows first output = record {
  files = opened.files;
  has = opened.has;
  reports = first.reports;
  are = record { rows = rows_of collector.names; are = rows; first = first.first };
  output = output;
}

pub store_refused : (IsTold : Type 0) (old new : Told) (e : CollectError) → RefusesToOpen IsTold old new e → RefusesStore IsTold old new (end_of e)
store_refused IsTold old new collect.C1 r = tt
store_refused IsTold old new collect.C2 r = tt
store_refused IsTold old new collect.C4 r = tt
store_refused IsTold old new collect.C3 r = tt
store_refused IsTold old new collect.StoreFault r = tt
store_refused IsTold old new collect.Foreign r = r
store_refused IsTold old new (collect.Garbled offset) r = r
store_refused IsTold old new (collect.StoreFull length' need) r = tt
store_refused IsTold old new collect.Memory r = tt

pub files_refused : (IsTold : Type 0) (old new : Told) (e : KpiEnd) → (e ≡ StoreFault) ⊎ (e ≡ Memory) → RefusesStore IsTold old new e
files_refused IsTold old new e known = elim known [
  | inl is ↦ subst (RefusesStore IsTold old new) (sym is) tt
  | inr is ↦ subst (RefusesStore IsTold old new) (sym is) tt
]

-- ---- the whole run

-- The ratios weren't read.
pub ended_early : (run : Run) (told : Told) (end : KpiEnd) (ratios : List RatioContent) → run.after ≡ run.before → ReadsRatios run.input (Err end) ratios
    → IsOutcome run told told end
ended_early run told Done ratios same reads = absurd reads
ended_early run told (BadInput place code) ratios same reads = (reads, same, refl)
ended_early run told ReadFault ratios same reads = (same, refl)
ended_early run told WriteFault ratios same reads = absurd reads
ended_early run told StoreFault ratios same reads = absurd reads
ended_early run told Foreign ratios same reads = absurd reads
ended_early run told (Garbled offset) ratios same reads = absurd reads
ended_early run told Memory ratios same reads = same

-- The store wasn't summed up.
pub ended_unsummed : (IsTold : Type 0) → IsTold → (run : Run) (old new : Told) (end : KpiEnd) → run.after ≡ run.before → RefusesStore IsTold old new end
    → IsOutcome run old new end
ended_unsummed IsTold told run old new Done same refuses = absurd refuses
ended_unsummed IsTold told run old new (BadInput place code) same refuses = absurd refuses
ended_unsummed IsTold told run old new ReadFault same refuses = absurd refuses
ended_unsummed IsTold told run old new WriteFault same refuses = absurd refuses
ended_unsummed IsTold told run old new StoreFault same refuses = same
ended_unsummed IsTold told run old new Foreign same refuses = (λ u. refuses told, same)
ended_unsummed IsTold told run old new (Garbled offset) same refuses = (λ u. refuses told, same)
ended_unsummed IsTold told run old new Memory same refuses = same

-- The text was written, or a prefix of it.
pub ended_written : (run : Run) (old new : Told) (end : KpiEnd) (ratios : List RatioContent) (text : List ℕ) → AddsLines [] (lines_of run.input) ratios
    → IsText (record { ratios = ratios; begin = run.begin; end = run.end; by = run.by }) old.now.first.seen text → Writes text run.before run.after end
    → IsOutcome run old new end
ended_written run old new Done ratios text adds is writes = (text, record { ratios = ratios; adds = adds; is_text = is }, writes)
ended_written run old new (BadInput place code) ratios text adds is writes = absurd writes
ended_written run old new ReadFault ratios text adds is writes = absurd writes
ended_written run old new WriteFault ratios text adds is writes = (text, record { ratios = ratios; adds = adds; is_text = is }, writes)
ended_written run old new StoreFault ratios text adds is writes = absurd writes
ended_written run old new Foreign ratios text adds is writes = absurd writes
ended_written run old new (Garbled offset) ratios text adds is writes = absurd writes
ended_written run old new Memory ratios text adds is writes = absurd writes
