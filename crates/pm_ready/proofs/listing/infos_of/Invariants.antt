use Rattle.std.proofs.Common.{◌≡◌, map, take, All}
use Rattle.pm_notice.specs.NoticeContent.{listed_of, IsFileInfo}
use Rattle.pm_ready.specs.Files.{file_of}
use Rattle.pm_ready.specs.Listing.{listed}
use Rattle.pm_ready.proofs.listing.infos_of.Given as goal

abbrev pub invariant-loop-file : goal.invariant-loop-file
invariant-loop-file l = record {
  listed : map listed_of l.infos.items ≡ map listed (map file_of (take l.file-index l.files));
  infos : All IsFileInfo l.infos.items;
}
