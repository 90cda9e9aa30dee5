-- Stored cursors: up to which notice a store says that each subscription was served (this project's own). It keeps cursors with each
-- Booked item, one for each subscription in byte order of id. They are no part of a history: `taken` has those of each Booked item.
use Rattle.std.specs.Prelude.{ℕ, ◌≡◌, ◌≤◌, Bool, true, false, List, [], ◌∷◌, ◌++◌, length, count_by, slice_index_or, if◌then◌else◌, Option, Some}
use Rattle.std.specs.Str.{bytes_eq}
use Rattle.pm_history.specs.declared.entry.Side.{Side}
use Rattle.pm_history.specs.declared.entry.Entry.TheVariants.{Boot, Subscribed}
use Rattle.pm_history.specs.History.{History, Start, ◌▷◌, IsHistory}
use Rattle.pm_history.specs.Terms.{Terms}
use Rattle.pm_history.specs.Notices.{notices_of}
use Rattle.pm_items.specs.Items.{Item, Booked, Changed, item_of, items_of}
use Rattle.pm_items.specs.Subscribed.{subscribers_after}

-- Whether an item is a Booked.
abbrev pub is_booked : Item → Bool
is_booked (Booked moment tick cells) = true
is_booked _ = false

-- How many Booked items a history has: the place in `taken` of the next one's cursors.
abbrev pub bookings : History → ℕ
bookings h = count_by is_booked (items_of h)

-- The cursor of an id, where these cursors are those of these ids.
abbrev pub cursor_in : List (List ℕ) → List ℕ → List ℕ → ℕ
cursor_in [] cursors id = 0
cursor_in (i ∷ is) [] id = 0
cursor_in (i ∷ is) (c ∷ cs) id = if bytes_eq i id then c else cursor_in is cs id

-- The cursors of the item of the next entry, where that is a Booked.
abbrev pub cursors_taken : List (List ℕ) → History → List ℕ
cursors_taken taken h = slice_index_or taken (bookings h) []

module _ (terms : Side → List ℕ → Terms) (taken : List (List ℕ)) where
  -- The stored cursor of an id after an item that comes after h, where it was this one before it.
  abbrev pub cursor_by : History → List ℕ → ℕ → Option Item → ℕ
  cursor_by h id old (Some (Booked moment tick cells)) = cursor_in (subscribers_after h) (cursors_taken taken h) id
  cursor_by h id old (Some (Changed (Subscribed moment name port path))) =
      if bytes_eq name id then length (notices_of terms h) else old
  cursor_by h id old _ = old

  -- The stored cursor of a subscription: that in the last Booked since it was made, else the number of notices when it was made.
  abbrev pub stored_cursor : History → List ℕ → ℕ
  stored_cursor Start id = 0
  stored_cursor (h ▷ e) id = cursor_by h id (stored_cursor h id) (item_of h e)

  -- Cursors, one for each of these ids: each is at least the stored one, and at most the number of notices before the Booked.
  abbrev pub CursorsFit : History → List (List ℕ) → List ℕ → Type 0
  CursorsFit h [] [] = Unit {0}
  CursorsFit h (id ∷ ids) (c ∷ cs) = (stored_cursor h id ≤ c) × (c ≤ length (notices_of terms h)) × CursorsFit h ids cs
  CursorsFit h _ _ = ⊥

  -- The same of an item after h, where it is a Booked.
  abbrev pub FitsNext : History → Option Item → Type 0
  FitsNext h (Some (Booked moment tick cells)) = CursorsFit h (subscribers_after h) (cursors_taken taken h)
  FitsNext h _ = Unit {0}

  -- The same of each item of a history.
  abbrev pub AllFit : History → Type 0
  AllFit Start = Unit {0}
  AllFit (h ▷ e) = AllFit h × FitsNext h (item_of h e)

-- Histories with the same items have the same stored cursors.
abbrev pub SameCursors : Type 0
SameCursors =
    (terms : Side → List ℕ → Terms) (taken : List (List ℕ)) (g h : History) → IsHistory g → IsHistory h → items_of g ≡ items_of h
    → (id : List ℕ) → stored_cursor terms taken g id ≡ stored_cursor terms taken h id

-- The cursors of a Booked item change nothing of what was stored before it.
abbrev pub CursorsStay : Type 0
CursorsStay =
    (terms : Side → List ℕ → Terms) (taken more : List (List ℕ)) (h : History) (id : List ℕ) → bookings h ≤ length taken
    → stored_cursor terms (taken ++ more) h id ≡ stored_cursor terms taken h id

-- A Boot stores no cursors, whatever gap it ends.
abbrev pub BootsStoreNone : Type 0
BootsStoreNone =
    (terms : Side → List ℕ → Terms) (taken : List (List ℕ)) (h : History) (moment : ℕ) (id : List ℕ)
    → stored_cursor terms taken (h ▷ Boot moment) id ≡ stored_cursor terms taken h id

-- Where the cursors of each Booked item fit, a stored cursor is at most the number of notices.
abbrev pub CursorsBounded : Type 0
CursorsBounded =
    (terms : Side → List ℕ → Terms) (taken : List (List ℕ)) (h : History) (id : List ℕ) → IsHistory h → AllFit terms taken h
    → stored_cursor terms taken h id ≤ length (notices_of terms h)
