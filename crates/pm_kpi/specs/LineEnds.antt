-- What one line does to the ratios.
use Rattle.std.specs.Prelude.{◌≡◌, ℕ, List, Result, Ok, Err}
use Rattle.pm_kpi.specs.Ratio.{RatioContent}
use Rattle.pm_kpi.specs.Input.{AddsLine, Breaks}
use Rattle.pm_kpi.specs.declared.kpi_end.KpiEnd.{KpiEnd}
use Rattle.pm_kpi.specs.declared.kpi_end.KpiEnd.TheVariants.{BadInput, Memory}

-- The line, which is the one of this number, adds a ratio, or breaks a rule.
abbrev pub TakesLine : List RatioContent → List ℕ → ℕ → Result (Unit {0}) KpiEnd → List RatioContent → Type 0
TakesLine old line place (Ok done) new = AddsLine old line new
TakesLine old line place (Err (BadInput at code)) new = (at ≡ place) × Breaks old line code
TakesLine old line place (Err Memory) new = Unit {0}
TakesLine old line place (Err end) new = ⊥
