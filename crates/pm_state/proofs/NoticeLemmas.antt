-- The notices that an entry which ends ticks adds.
use Rattle.std.proofs.Common.{◌≡◌, ℕ, Bool, true, false, List, [], ◌++◌, refl}
use Rattle.pm_base.specs.Moment.{tick_of}
use Rattle.pm_inventory.specs.Inventory.{InventoryState}
use Rattle.pm_history.specs.declared.entry.Entry.TheVariants.{Boot, Now}
use Rattle.pm_history.specs.History.{History, ◌▷◌, last_moment, IsHistory}
use Rattle.pm_history.specs.Files.{Report, files_of}
use Rattle.pm_asked.specs.Asked.{terms_of}
use Rattle.pm_jobs.specs.State.{JobsState}
use Rattle.pm_jobs.specs.Stands.{Stands}
use Rattle.pm_close.specs.DueReports.{ended_by}
use Rattle.pm_close.specs.MonitorPlans.{AreCrossings}
use Rattle.pm_close.specs.declared.open_monitors_tick.EndCrossings.{EndCrossings}
use Rattle.pm_notice.specs.declared.notice.Notice.{Notice}
use Rattle.pm_ready.specs.Files.{File, AreFilesOf}
use Rattle.pm_notify.specs.Kept.{AddsNotices}

-- What is told of a start of the program, where there are no crossings; and of a request.
abbrev pub ToldOfBoot : InventoryState → ℕ → List File → List EndCrossings → List Notice → Type 0
ToldOfBoot inventory first files crossings posted =
    crossings ≡ [] → (h : History) (moment : ℕ) (reports : List Report)
    → IsHistory (h ▷ Boot moment)
    → files_of (terms_of inventory) (h ▷ Boot moment) ≡ files_of (terms_of inventory) h ++ reports
    → AreFilesOf inventory reports files
    → AddsNotices inventory h (Boot moment) first posted

abbrev pub ToldOfNow : InventoryState → JobsState → ℕ → ℕ → List File → List EndCrossings → List Notice → Type 0
ToldOfNow inventory jobs from first files crossings posted =
    (h : History) (moment : ℕ) (reports : List Report)
    → IsHistory (h ▷ Now moment) → Stands inventory jobs h → tick_of (last_moment h) ≡ from
    → files_of (terms_of inventory) (h ▷ Now moment) ≡ files_of (terms_of inventory) h ++ reports
    → AreFilesOf inventory reports files
    → AreCrossings inventory jobs (h ▷ Now moment) from (tick_of moment) crossings
    → AddsNotices inventory h (Now moment) first posted

pub notices-added : (inventory : InventoryState) (jobs : JobsState) (h : History) (boot : Bool) (moment from first : ℕ) (reports : List Report)
    (files : List File) (crossings : List EndCrossings) (posted : List Notice)
    → ToldOfBoot inventory first files crossings posted → ToldOfNow inventory jobs from first files crossings posted
    → IsHistory (h ▷ ended_by boot moment) → Stands inventory jobs h → tick_of (last_moment h) ≡ from
    → files_of (terms_of inventory) (h ▷ ended_by boot moment) ≡ files_of (terms_of inventory) h ++ reports
    → AreFilesOf inventory reports files
    → (boot ≡ true → crossings ≡ [])
    → (boot ≡ false → IsHistory (h ▷ Now moment) → AreCrossings inventory jobs (h ▷ Now moment) from (tick_of moment) crossings)
    → AddsNotices inventory h (ended_by boot moment) first posted
notices-added inventory jobs h true moment from first reports files crossings posted of_boot of_now is stands at adds are none some =
    of_boot (none refl) h moment reports is adds are
notices-added inventory jobs h false moment from first reports files crossings posted of_boot of_now is stands at adds are none some =
    of_now h moment reports is stands at adds are (some refl is)
