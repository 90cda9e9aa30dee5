-- The steps of a run.
use Rattle.std.specs.Prelude.{◌≡◌, ℕ, List, [], ◌∷◌, ◌++◌, length, take}
use Rattle.pm_disk.specs.Moments.{Told}
use Rattle.pm_file.specs.Content.{ReportContent}
use Rattle.pm_collect.specs.Stored.{HeldFile}
use Rattle.pm_collect.specs.Opening.{RefusesToOpen}
use Rattle.pm_collect.specs.declared.error.CollectError.{CollectError}
use Rattle.pm_collect.specs.declared.error.CollectError.TheVariants as collect
use Rattle.pm_kpi.specs.Rows.{AskedContent}
use Rattle.pm_kpi.specs.Sums.{StandsFor}
use Rattle.pm_kpi.specs.Run.{IsReportAt, AreFirst, Run}
use Rattle.pm_kpi.specs.declared.by.By.{By}
use Rattle.pm_kpi.specs.declared.sums.Sums.{Sums}
use Rattle.pm_kpi.specs.declared.kpi_end.KpiEnd.{KpiEnd}
use Rattle.pm_kpi.specs.declared.kpi_end.KpiEnd.TheVariants.{Done, WriteFault, StoreFault, Foreign, Garbled, Memory}

-- The end of a run whose store isn't opened, or whose file isn't loaded, for this reason.
abbrev pub end_of : CollectError → KpiEnd
end_of collect.StoreFault = StoreFault
end_of collect.Foreign = Foreign
end_of (collect.Garbled offset) = Garbled offset
end_of error = Memory

-- The report at this place is added to the sums.
pub record AddsFile (asked : AskedContent) (files : List HeldFile) (rows : List (List ℕ × ℕ)) (place : ℕ) (reports : List ReportContent) (sums : Sums) : Type 0 where
  pub report : ReportContent
  pub is : IsReportAt files rows place report
  pub stands : StandsFor asked (reports ++ report ∷ []) sums

-- The sums are those of the reports at the first places.
pub record SumsFirst (asked : AskedContent) (files : List HeldFile) (rows : List (List ℕ × ℕ)) (count : ℕ) (sums : Sums) : Type 0 where
  pub reports : List ReportContent
  pub first : AreFirst files rows reports count
  pub stands : StandsFor asked reports sums

-- Why the store isn't summed up.
abbrev pub RefusesStore : (IsTold : Type 0) → Told → Told → KpiEnd → Type 0
RefusesStore IsTold old new StoreFault = Unit {0}
RefusesStore IsTold old new Foreign = RefusesToOpen IsTold old new collect.Foreign
RefusesStore IsTold old new (Garbled offset) = RefusesToOpen IsTold old new (collect.Garbled offset)
RefusesStore IsTold old new Memory = Unit {0}
RefusesStore IsTold old new end = ⊥

-- The text was written, or a prefix of it.
abbrev pub Writes : List ℕ → List ℕ → List ℕ → KpiEnd → Type 0
Writes text old new Done = new ≡ old ++ text
Writes text old new WriteFault = (n : ℕ) × (new ≡ old ++ take n text)
Writes text old new end = ⊥

abbrev pub run_of : ℕ → ℕ → By → List ℕ → List ℕ → List ℕ → Run
run_of begin end by input before after = record { begin = begin; end = end; by = by; input = input; before = before; after = after }
