use Rattle.std.proofs.Common.{◌≡◌, map, drop}
use Rattle.serde_json.specs.View.{view}
use Rattle.pm_form.specs.Lists.{each_reads}
use Rattle.pm_form.proofs.ReadLemmas.{joined}
use Rattle.pm_file.specs.ReportForm.{row_form}
use Rattle.pm_file.specs.Report.{row_content}
use Rattle.pm_file.proofs.read_groups.read_rows.Given as goal

abbrev pub invariant-loop-item : goal.invariant-loop-item
invariant-loop-item l =
    each_reads (row_form).reads (map view l.list)
    ≡ joined (map row_content l.rows.items) (each_reads (row_form).reads (map view (drop l.item-index l.list)))
