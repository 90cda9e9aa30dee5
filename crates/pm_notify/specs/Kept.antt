-- Which notices are kept: those of the history that are not expired, a day after the ends of their periods (this project's own).
use Rattle.std.specs.Prelude.{ℕ, ◌≡◌, ◌++◌, Bool, not, List, length}
use Rattle.std.specs.List.{filter}
use Rattle.pm_inventory.specs.Inventory.{InventoryState}
use Rattle.pm_history.specs.declared.entry.Entry.{Entry}
use Rattle.pm_history.specs.History.{History, ◌▷◌, last_moment}
use Rattle.pm_history.specs.Notices as history
use Rattle.pm_asked.specs.Asked.{terms_of}
use Rattle.pm_notice.specs.declared.notice.Notice.{Notice}
use Rattle.pm_notice.specs.Round.{is_expired}
use Rattle.pm_notify.specs.Notices.{AreNoticesFrom}

-- What is kept: notices, oldest first; how many there are with those that are kept no more; and how many more there is room for.
pub record NoticesState : Type 0 where
  pub kept : List Notice
  pub total : ℕ
  pub room : ℕ

-- The notices of a history.
abbrev pub notices_of : InventoryState → History → List history.Notice
notices_of inventory h = history.notices_of (terms_of inventory) h

-- Whether a notice may be posted at a moment.
abbrev pub lasts : ℕ → Notice → Bool
lasts moment n = not (is_expired moment n)

-- Of the notices that tell those of the history, numbered from 0, these are the ones that are not expired at its last moment.
pub record NoticesStand (inventory : InventoryState) (h : History) (s : NoticesState) : Type 0 where
  pub all : List Notice
  pub told : AreNoticesFrom inventory 0 (notices_of inventory h) all
  pub total : s.total ≡ length (notices_of inventory h)
  pub kept : s.kept ≡ filter (lasts (last_moment h)) all

-- These tell the notices that an entry adds to a history, numbered from here on.
pub record AddsNotices (inventory : InventoryState) (h : History) (e : Entry) (first : ℕ) (posted : List Notice) : Type 0 where
  pub added : List history.Notice
  pub grows : notices_of inventory (h ▷ e) ≡ notices_of inventory h ++ added
  pub told : AreNoticesFrom inventory first added posted
