use Rattle.std.proofs.Common.{◌≡◌, map, drop}
use Rattle.serde_json.specs.View.{view}
use Rattle.pm_form.specs.Lists.{each_reads}
use Rattle.pm_form.proofs.ReadLemmas.{joined}
use Rattle.pm_notice.specs.NoticeForm.{listed_form}
use Rattle.pm_notice.specs.NoticeContent.{listed_of}
use Rattle.pm_notice.proofs.listing.read_files.Given as goal

abbrev pub invariant-loop-item : goal.invariant-loop-item
invariant-loop-item l =
    each_reads listed_form.reads (map view l.list)
    ≡ joined (map listed_of l.files.items) (each_reads listed_form.reads (map view (drop l.item-index l.list)))
