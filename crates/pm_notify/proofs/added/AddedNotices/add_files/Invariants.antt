use Rattle.std.proofs.Common.{◌≡◌, ◌++◌, List, map, take}
use Rattle.pm_history.specs.Files.{Report}
use Rattle.pm_history.specs.Notices as history
use Rattle.pm_ready.specs.Files.{AreFilesOf, file_of}
use Rattle.pm_notify.specs.Notices.{AreNoticesFrom}
use Rattle.pm_notify.proofs.added.AddedNotices.add_files.Given as goal

abbrev pub invariant-loop-file : goal.invariant-loop-file
invariant-loop-file l = record {
  first : l.self.first ≡ l.fn.self.first;
  told : (before : List history.Notice) (reports : List Report) → AreNoticesFrom l.inventory l.fn.self.first before l.fn.self.notices.items
      → AreFilesOf l.inventory reports (map file_of l.files)
      → AreNoticesFrom l.inventory l.fn.self.first (before ++ map history.FileReady (take l.file-index reports)) l.self.notices.items;
}
