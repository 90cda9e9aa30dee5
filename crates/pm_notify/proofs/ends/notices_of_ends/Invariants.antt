use Rattle.std.proofs.Common.{◌≡◌, ◌≤◌, ◌+◌, ◌-◌, length, map, drop}
use Rattle.pm_history.specs.History.{History}
use Rattle.pm_history.specs.Ticks.{behind}
use Rattle.pm_history.specs.Files.{files_at}
use Rattle.pm_history.specs.Notices.{notices_at}
use Rattle.pm_asked.specs.Asked.{terms_of}
use Rattle.pm_ready.specs.Files.{AreFilesOf, file_of}
use Rattle.pm_notify.specs.Notices.{AreNoticesFrom}
use Rattle.pm_notify.specs.Ends.{AreEnds}
use Rattle.pm_notify.proofs.ends.notices_of_ends.Given as goal

abbrev pub invariant-loop-k : goal.invariant-loop-k
invariant-loop-k l = record {
  first : l.added.first ≡ l.first;
  within : l.next ≤ length l.files;
  told : (h : History) → AreEnds l.inventory l.jobs h l.from l.files l.crossings
      → AreNoticesFrom l.inventory l.first (behind (notices_at (terms_of l.inventory) h) l.from l.k) l.added.notices.items;
  left : (h : History) → AreEnds l.inventory l.jobs h l.from l.files l.crossings
      → AreFilesOf l.inventory (behind (files_at (terms_of l.inventory) h) (l.from + l.k) (length l.crossings - l.k)) (map file_of (drop l.next l.files));
}
