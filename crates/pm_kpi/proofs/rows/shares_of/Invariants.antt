use Rattle.std.proofs.Common.{◌≡◌, ◌++◌, drop, map}
use Rattle.std.specs.List.{flat_map}
use Rattle.pm_file.specs.Report.{part_content}
use Rattle.pm_kpi.specs.Rows.{shares_of_row, rows_in_part}
use Rattle.pm_kpi.specs.Asked.{asked_content, shares_in}
use Rattle.pm_kpi.proofs.rows.shares_of.Given as goal

abbrev pub invariant-loop-part : goal.invariant-loop-part
invariant-loop-part l =
    shares_in l.shares ++ flat_map (shares_of_row (asked_content l.asked)) (flat_map (rows_in_part l.report.job) (map part_content (drop l.part-index l.report.parts.items)))
    ≡ flat_map (shares_of_row (asked_content l.asked)) (flat_map (rows_in_part l.report.job) (map part_content l.report.parts.items))
