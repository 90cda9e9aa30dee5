-- Entries without an item: what they are, and that they change nothing of what a replay keeps.
use Rattle.std.specs.Prelude.{ℕ, ◌<◌, ◌≡◌, ◌==◌, Bool, true, false, List, [], ◌∷◌, None}
use Rattle.pm_base.specs.Moment.{tick_of}
use Rattle.pm_history.specs.declared.entry.Side.{Side}
use Rattle.pm_history.specs.declared.entry.Entry.{Entry}
use Rattle.pm_history.specs.declared.entry.Entry.TheVariants.{Now, Event}
use Rattle.pm_history.specs.Entry.{moment_of}
use Rattle.pm_history.specs.History.{History, ◌▷◌, grown, last_moment, MayFollow, is_cut}
use Rattle.pm_history.specs.Terms.{Terms}
use Rattle.pm_history.specs.Standing.{Making, standing_after, ids_after}
use Rattle.pm_history.specs.Value.{values_where}
use Rattle.pm_history.specs.Counted.{is_counted}
use Rattle.pm_history.specs.Files.{files_of}
use Rattle.pm_history.specs.Notices.{notices_of}
use Rattle.pm_items.specs.Items.{item_of}

-- An entry may come next, and has no item.
pub record IsUnstored (h : History) (e : Entry) : Type 0 where
  pub follows : MayFollow h e
  pub without : item_of h e ≡ None

-- Each of these entries after h is one.
abbrev pub AreUnstored : History → List Entry → Type 0
AreUnstored h [] = Unit {0}
AreUnstored h (e ∷ es) = IsUnstored h e × AreUnstored (h ▷ e) es

-- h is g, and entries after it without an item.
pub record AddsUnstored (g h : History) : Type 0 where
  pub more : List Entry
  pub unstored : AreUnstored g more
  pub is : h ≡ grown g more

-- Whether an entry is a Now or an event.
abbrev pub is_now_or_event : Entry → Bool
is_now_or_event (Now moment) = true
is_now_or_event (Event moment object metric value registered) = true
is_now_or_event _ = false

-- An entry without an item is a Now or an event, in the tick of the last moment.
abbrev pub UnstoredInTick : Type 0
UnstoredInTick =
    (h : History) (e : Entry) → IsUnstored h e → (is_now_or_event e ≡ true) × (tick_of (moment_of e) ≡ tick_of (last_moment h))

-- What a replay keeps is the same of both: what exists under each id, which ticks are cut, the values of each tick that is over,
-- which of these ticks are counted, files and notices.
pub record ChangesNothing (terms : Side → List ℕ → Terms) (old new : History) : Type 0 where
  pub tick : tick_of (last_moment new) ≡ tick_of (last_moment old)
  pub ids : (side : Side) → ids_after side new ≡ ids_after side old
  pub standing : (side : Side) (id : List ℕ) → standing_after terms side new id ≡ standing_after terms side old id
  pub cut : (t : ℕ) → is_cut new t ≡ is_cut old t
  pub values : (o m t : ℕ) → t < tick_of (last_moment old)
      → values_where o m (λ k. k == t) new ≡ values_where o m (λ k. k == t) old
  pub counted : (w : Making) (t : ℕ) → t < tick_of (last_moment old) → is_counted terms new w t ≡ is_counted terms old w t
  pub files : files_of terms new ≡ files_of terms old
  pub notices : notices_of terms new ≡ notices_of terms old

-- Entries without an item change nothing of it.
abbrev pub UnstoredChangesNothing : Type 0
UnstoredChangesNothing =
    (terms : Side → List ℕ → Terms) (h : History) (more : List Entry) → AreUnstored h more → ChangesNothing terms h (grown h more)
