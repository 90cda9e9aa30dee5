-- The sums of the rows of reports.
use Rattle.std.specs.Prelude.{◌≡◌, List, length}
use Rattle.pm_file.specs.Content.{ReportContent}
use Rattle.pm_kpi.specs.Rows.{AskedContent, shares_of}
use Rattle.pm_kpi.specs.Maps.{HasSame, Holds}
use Rattle.pm_kpi.specs.declared.sums.Sums.{Sums}

-- These are the sums of what is asked for over the rows of these reports.
pub record StandsFor (asked : AskedContent) (reports : List ReportContent) (sums : Sums) : Type 0 where
  pub holds : Holds sums.map (shares_of asked reports)
  pub count : sums.count ≡ length (shares_of asked reports)

-- All sums are as before.
pub record Stays (old new : Sums) : Type 0 where
  pub same : HasSame old.map new.map
  pub count : new.count ≡ old.count
