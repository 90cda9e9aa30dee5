-- With what a request at a moment begins: the Now or the Boot that comes before its own entries (this project's own).
use Rattle.std.specs.Prelude.{ℕ, ◌+◌, ◌≡◌, max, nat_lt, if◌then◌else◌, Bool, List, Option, Some, None}
use Rattle.pm_inventory.specs.Inventory.{InventoryState}
use Rattle.pm_history.specs.declared.entry.Entry.{Entry}
use Rattle.pm_history.specs.declared.entry.Entry.TheVariants.{Boot, Now}
use Rattle.pm_history.specs.History.{History, ◌▷◌, last_moment, IsHistory}
use Rattle.pm_items.specs.Items.{item_of}
use Rattle.pm_ledger.specs.Stored.{HasText, AddsItem}
use Rattle.pm_store.specs.declared.item.Item1.{Item1}
use Rattle.pm_store.specs.declared.item.Item1.TheVariants as stored
use Rattle.pm_state.specs.declared.opening.TheConstants.{MOST_GAP}

-- Moments never fall: one that is handed in late counts as the last moment.
abbrev pub moment_after : ℕ → ℕ → ℕ
moment_after last moment = max moment last

-- Whether more than a day has gone by: what happened meanwhile can't be known.
abbrev pub is_boot : ℕ → ℕ → Bool
is_boot last moment = nat_lt (last + MOST_GAP) moment

-- A Now; a Boot after more than a day.
abbrev pub opening_in : ℕ → ℕ → Entry
opening_in last moment = if is_boot last moment then Boot moment else Now moment

abbrev pub opening_at : ℕ → ℕ → Entry
opening_at last moment = opening_in last (moment_after last moment)

abbrev pub opening : History → ℕ → Entry
opening h moment = opening_at (last_moment h) moment

-- The history in which a request at a moment is answered.
abbrev pub entered : History → ℕ → History
entered h moment = h ▷ opening h moment

-- The bytes of its item, if it has one.
abbrev pub AddsOpening : InventoryState → History → Entry → Option (List ℕ) → Type 0
AddsOpening inventory h e None = IsHistory (h ▷ e) × (item_of h e ≡ None)
AddsOpening inventory h e (Some bytes) = AddsItem inventory h e bytes

-- The same at a moment that isn't before the last one.
abbrev pub AddsAt : InventoryState → History → ℕ → Option (List ℕ) → Type 0
AddsAt inventory h moment item = AddsOpening inventory h (opening_in (last_moment h) moment) item

-- An item of a Now keeps these cursors of subscriptions, as they were before its own notices; others keep none.
abbrev pub KeepsIn : List ℕ → Item1 → Type 0
KeepsIn cursors (stored.Booked moment tick cells kept) = kept ≡ cursors
KeepsIn cursors _ = Unit {0}

-- The same of its bytes, if there is an item.
abbrev pub KeepsCursors : List ℕ → Option (List ℕ) → Type 0
KeepsCursors cursors None = Unit {0}
KeepsCursors cursors (Some bytes) = (item : Item1) × HasText item bytes × KeepsIn cursors item
