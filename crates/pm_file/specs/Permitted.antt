-- The values of a report.
use Rattle.std.specs.Prelude.{Bool}
use Rattle.pm_file.specs.Content.{ReportContent}
use Rattle.pm_file.specs.ReportForm.{report_form}

-- There is a tree that says this report.
unfoldable pub is_permitted : ReportContent → Bool
is_permitted r = report_form.fits r
