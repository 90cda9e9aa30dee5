use Rattle.std.proofs.Common.{◌≡◌, map, drop}
use Rattle.serde_json.specs.View.{view}
use Rattle.pm_form.specs.Lists.{each_reads}
use Rattle.pm_form.proofs.ReadLemmas.{joined}
use Rattle.pm_file.specs.ReportForm.{part_form}
use Rattle.pm_file.specs.Reading.{read_part_content}
use Rattle.pm_file.proofs.read.read_parts.Given as goal

abbrev pub invariant-loop-item : goal.invariant-loop-item
invariant-loop-item l =
    each_reads (part_form).reads (map view l.list)
    ≡ joined (map read_part_content l.parts.items) (each_reads (part_form).reads (map view (drop l.item-index l.list)))
