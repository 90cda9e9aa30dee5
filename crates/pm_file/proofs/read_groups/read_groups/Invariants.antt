use Rattle.std.proofs.Common.{◌≡◌, map, drop}
use Rattle.serde_json.specs.View.{view}
use Rattle.pm_form.specs.Lists.{each_reads}
use Rattle.pm_form.proofs.ReadLemmas.{joined}
use Rattle.pm_file.specs.ReportForm.{group_form}
use Rattle.pm_file.specs.Report.{group_content}
use Rattle.pm_file.proofs.read_groups.read_groups.Given as goal

abbrev pub invariant-loop-item : goal.invariant-loop-item
invariant-loop-item l =
    each_reads (group_form).reads (map view l.list)
    ≡ joined (map group_content l.groups.items) (each_reads (group_form).reads (map view (drop l.item-index l.list)))
