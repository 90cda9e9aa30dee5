use Rattle.std.proofs.Common.{◌≡◌, map, drop}
use Rattle.std.specs.List.{list_all}
use Rattle.pm_file.specs.Report.{row_content}
use Rattle.pm_file.specs.Agreement.{row_agrees}
use Rattle.pm_file.proofs.agreement.rows_agree.Given as goal

abbrev pub invariant-loop-row : goal.invariant-loop-row
invariant-loop-row l = list_all (row_agrees l.count) (map row_content l.rows) ≡ list_all (row_agrees l.count) (map row_content (drop l.row-index l.rows))
