-- What holds of kept notices over every history.
use Rattle.std.specs.Prelude.{ℕ, ◌≤◌, ◌≡◌, List}
use Rattle.pm_base.specs.Moment.{tick_of}
use Rattle.pm_inventory.specs.Inventory.{InventoryState}
use Rattle.pm_history.specs.declared.entry.Entry.{Entry}
use Rattle.pm_history.specs.Entry.{moment_of}
use Rattle.pm_history.specs.History.{History, ◌▷◌, last_moment}
use Rattle.pm_notice.specs.declared.notice.Notice.{Notice}
use Rattle.pm_notice.specs.Rounds.{HaveDue}
use Rattle.pm_notify.specs.Notices.{AreNoticesFrom}
use Rattle.pm_notify.specs.Kept.{NoticesState, notices_of, NoticesStand}

-- An entry in the tick of the last moment adds no notice, and none expires: so does any but a Boot or a Now.
abbrev pub NoticesStay : Type 0
NoticesStay =
    (inventory : InventoryState) (h : History) (e : Entry) (s : NoticesState)
    → last_moment h ≤ moment_of e → tick_of (moment_of e) ≡ tick_of (last_moment h)
    → NoticesStand inventory h s → NoticesStand inventory (h ▷ e) s

-- The kept notices have each notice of the history that is due from the last moment on, whatever the cursor.
abbrev pub KeptAreDue : Type 0
KeptAreDue =
    (inventory : InventoryState) (h : History) (s : NoticesState) (stand : NoticesStand inventory h s) (moment least : ℕ)
    → last_moment h ≤ moment → HaveDue s.kept stand.all moment least

-- One list of notices tells those of a history.
abbrev pub NoticesToldOnce : Type 0
NoticesToldOnce =
    (inventory : InventoryState) (h : History) (one other : List Notice)
    → AreNoticesFrom inventory 0 (notices_of inventory h) one → AreNoticesFrom inventory 0 (notices_of inventory h) other → one ≡ other
