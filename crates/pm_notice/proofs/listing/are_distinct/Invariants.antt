use Rattle.std.proofs.Common.{◌≡◌, drop}
use Rattle.pm_notice.specs.NoticeForm.{are_distinct}
use Rattle.pm_notice.specs.NoticeContent.{locations_of}
use Rattle.pm_notice.proofs.listing.are_distinct.Given as goal

abbrev pub invariant-loop-place : goal.invariant-loop-place
invariant-loop-place l = are_distinct (locations_of l.files) ≡ are_distinct (locations_of (drop l.place l.files))
