-- The header of a report.
use Rattle.std.specs.Prelude.{ℕ, List}
use Rattle.pm_file.specs.ReportForm.{Header}

-- The header of these fields.
abbrev pub header_of : ℕ → List ℕ → List ℕ → Header
header_of begin job sender = record { begin = begin; job = job; sender = sender }
