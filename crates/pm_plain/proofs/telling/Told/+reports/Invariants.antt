use Rattle.std.proofs.Common.{length}
use Rattle.pm_plain.proofs.telling.Told.+reports.Given as goal

abbrev pub decreases-reports : goal.decreases-reports
decreases-reports l = length l.reports.now
