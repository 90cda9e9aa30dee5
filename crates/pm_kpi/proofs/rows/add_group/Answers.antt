use Rattle.std.proofs.Common.{◌≡◌, ◌++◌, List, subst}
use Rattle.std.specs.Prelude.{OnOk}
use Rattle.std.specs.List.{flat_map}
use Rattle.pm_kpi.specs.Rows.{PlacedRow, shares_of_row}
use Rattle.pm_kpi.specs.Asked.{asked_content, shares_in}
use Rattle.pm_kpi.proofs.RowLemmas.{rows_placed}
use Rattle.pm_kpi.proofs.rows.add_group.Goals as goal

pub returns : goal.returns
returns c =
    subst
    (λ (rows : List PlacedRow). OnOk c.add_rows.result (shares_in c.add_rows.new.shares ≡ shares_in c.args.shares.now ++ flat_map (shares_of_row (asked_content c.args.asked.now)) rows))
    (rows_placed c.args.job.now c.args.part.now.begin c.args.part.now.end c.args.group.now c.deref.result.now c.deref-2.result.now c.deref.ensures.value c.deref-2.ensures.value)
    c.add_rows.ensures
