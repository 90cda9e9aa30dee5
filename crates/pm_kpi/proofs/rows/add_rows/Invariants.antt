use Rattle.std.proofs.Common.{◌≡◌, ◌++◌, drop, map}
use Rattle.std.specs.List.{flat_map}
use Rattle.pm_kpi.specs.Rows.{shares_of_row}
use Rattle.pm_kpi.specs.Asked.{asked_content, row_at, shares_in}
use Rattle.pm_kpi.proofs.rows.add_rows.Given as goal

abbrev pub invariant-loop-row : goal.invariant-loop-row
invariant-loop-row l =
    shares_in l.shares ++ flat_map (shares_of_row (asked_content l.asked)) (map (row_at l.place) (drop l.row-index l.rows))
    ≡ shares_in l.initial.shares ++ flat_map (shares_of_row (asked_content l.asked)) (map (row_at l.place) l.rows)
