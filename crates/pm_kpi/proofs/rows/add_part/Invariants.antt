use Rattle.std.proofs.Common.{◌≡◌, ◌++◌, drop, map}
use Rattle.std.specs.List.{flat_map}
use Rattle.pm_file.specs.Report.{group_content}
use Rattle.pm_kpi.specs.Rows.{shares_of_row, rows_in_group}
use Rattle.pm_kpi.specs.Asked.{asked_content, shares_in}
use Rattle.pm_kpi.proofs.rows.add_part.Given as goal

abbrev pub invariant-loop-group : goal.invariant-loop-group
invariant-loop-group l =
    shares_in l.shares ++ flat_map (shares_of_row (asked_content l.asked)) (flat_map (rows_in_group l.job l.part.begin l.part.end) (map group_content (drop l.group-index l.part.groups.items)))
    ≡ shares_in l.initial.shares ++ flat_map (shares_of_row (asked_content l.asked)) (flat_map (rows_in_group l.job l.part.begin l.part.end) (map group_content l.part.groups.items))
