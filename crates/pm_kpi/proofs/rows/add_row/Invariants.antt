use Rattle.std.proofs.Common.{◌≡◌, ◌++◌, drop, map}
use Rattle.std.specs.List.{filter_map, enumerate_from}
use Rattle.pm_kpi.specs.Ratios.{ratio_content}
use Rattle.pm_kpi.specs.Rows.{share_of}
use Rattle.pm_kpi.specs.Asked.{asked_content, row_at, shares_in}
use Rattle.pm_kpi.proofs.rows.add_row.Given as goal

abbrev pub invariant-loop-number : goal.invariant-loop-number
invariant-loop-number l =
    shares_in l.shares ++ filter_map (share_of (asked_content l.asked) (row_at l.place l.row)) (enumerate_from l.number (map ratio_content (drop l.number l.ratio-items)))
    ≡ shares_in l.initial.shares ++ filter_map (share_of (asked_content l.asked) (row_at l.place l.row)) (enumerate_from 0 (map ratio_content l.ratio-items))
