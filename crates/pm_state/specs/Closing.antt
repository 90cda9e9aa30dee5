-- What ends with ticks, and what came of it.
use Rattle.std.specs.Prelude.{ℕ, ◌≡◌, ◌≤◌, ◌++◌, Bool, List, length, map}
use Rattle.pm_inventory.specs.Inventory.{InventoryState}
use Rattle.pm_history.specs.declared.entry.Entry.{Entry}
use Rattle.pm_history.specs.History.{History, ◌▷◌}
use Rattle.pm_history.specs.Files.{Report, files_of}
use Rattle.pm_asked.specs.Asked.{terms_of}
use Rattle.pm_jobs.specs.State.{JobsState}
use Rattle.pm_close.specs.Closer.{CloserStands, BookingStands, Suits}
use Rattle.pm_close.specs.DueReports.{ended_by}
use Rattle.pm_ready.specs.declared.ready.ReadyFile.{ReadyFile}
use Rattle.pm_ready.specs.Files.{AreFilesOf, file_of}
use Rattle.pm_ready.specs.Kept.{FilesStand}
use Rattle.pm_notify.specs.Kept.{NoticesState, NoticesStand, AddsNotices}
use Rattle.pm_state.specs.declared.closing.Closing.{Closing}
use Rattle.pm_state.specs.declared.closing.Ended.{Ended}

-- The closer stands for a history whose jobs and monitors these are, and the files and notices are those that aren't expired.
pub record ClosingStands (inventory : InventoryState) (jobs : JobsState) (h : History) (closing : Closing) : Type 0 where
  pub closer : CloserStands inventory jobs h closing.closer
  pub files : FilesStand inventory h closing.files.files
  pub notices : NoticesStand inventory h closing.notices

-- The same notices are kept, out of as many.
pub record IsKept (old new : NoticesState) : Type 0 where
  pub kept : new.kept ≡ old.kept
  pub total : new.total ≡ old.total

-- These are the files of the reports that an entry adds to a history.
pub record AddsReady (inventory : InventoryState) (h : History) (e : Entry) (files : List ReadyFile) : Type 0 where
  pub added : List Report
  pub adds : files_of (terms_of inventory) (h ▷ e) ≡ files_of (terms_of inventory) h ++ added
  pub are : AreFilesOf inventory added (map file_of files)

-- It is what a Now in a later tick comes to, or a Boot.
pub record IsEnd (inventory : InventoryState) (jobs : JobsState) (h : History) (boot : Bool) (moment : ℕ) (closing : Closing) (ended : Ended) : Type 0 where
  pub boot_is : ended.booking.boot ≡ boot
  pub booking : BookingStands inventory jobs h moment closing.closer ended.booking
  pub files : AddsReady inventory h (ended_by boot moment) ended.files.items
  pub notices : AddsNotices inventory h (ended_by boot moment) closing.notices.total ended.notices.notices.items

-- It may be enacted, and ends the ticks up to this one. No history is asked for.
pub record MayEnact (closing : Closing) (tick : ℕ) (ended : Ended) : Type 0 where
  pub booking : Suits closing.closer ended.booking
  pub tick_is : ended.booking.tick ≡ tick
  pub room : length ended.files.items ≤ closing.files.room
  pub next : ended.notices.first ≡ closing.notices.total
  pub notices : length ended.notices.notices.items ≤ closing.notices.room
