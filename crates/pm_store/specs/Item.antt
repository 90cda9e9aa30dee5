-- The bytes of a stored item: its kind, its moment in eight bytes, and the fields of its kind (this project's own, version 1).
use Rattle.std.specs.Prelude.{ℕ, ◌≤◌, ◌==◌, Bool, List, ◌++◌, nat_le}
use Rattle.pm_base.specs.declared.moment.TheConstants.{LAST_MOMENT}
use Rattle.pm_meas.specs.declared.cell.Cell.{Cell}
use Rattle.pm_store.specs.declared.item.Item1.{Item1}
use Rattle.pm_store.specs.declared.item.Item1.TheVariants.{Boot, Booked, JobMade, JobState, JobDeleted, MonitorMade, MonitorState, MonitorDeleted, Subscribed, Unsubscribed}
use Rattle.pm_store.specs.declared.item.TheConstants.{VERSION}
use Rattle.pm_store.specs.Format.{Format, byte, number16, number64, flag, short, long, both, tested}
use Rattle.pm_store.specs.Rows.{listed, cell_row, cursor_row, are_rising}

-- When it happened.
abbrev pub moment_of : Item1 → ℕ
moment_of (Boot moment version inventory) = moment
moment_of (Booked moment tick cells cursors) = moment
moment_of (JobMade moment id body) = moment
moment_of (JobState moment id unlocked) = moment
moment_of (JobDeleted moment id) = moment
moment_of (MonitorMade moment id body) = moment
moment_of (MonitorState moment id unlocked) = moment
moment_of (MonitorDeleted moment id) = moment
moment_of (Subscribed moment id port path) = moment
moment_of (Unsubscribed moment id) = moment

-- The number of its kind.
abbrev pub kind_of : Item1 → ℕ
kind_of (Boot moment version inventory) = 1
kind_of (Booked moment tick cells cursors) = 2
kind_of (JobMade moment id body) = 3
kind_of (JobState moment id unlocked) = 4
kind_of (JobDeleted moment id) = 5
kind_of (MonitorMade moment id body) = 6
kind_of (MonitorState moment id unlocked) = 7
kind_of (MonitorDeleted moment id) = 8
kind_of (Subscribed moment id port path) = 9
kind_of (Unsubscribed moment id) = 10

-- The kind and the moment.
abbrev pub head : Format (ℕ × ℕ)
head = both byte (tested (λ m. nat_le m LAST_MOMENT) number64)

-- The fields of a Boot: the version, and the inventory's text.
abbrev pub opened : Format (ℕ × List ℕ)
opened = both (tested (λ v. v == VERSION) byte) long

-- The cells of a Booked.
abbrev pub cells_listed : Format (List (ℕ × Cell))
cells_listed = tested are_rising (listed number16 cell_row)

-- The cursors of a Booked.
abbrev pub cursors_listed : Format (List ℕ)
cursors_listed = listed byte cursor_row

-- The fields of a Booked: the tick that it takes, its cells, and the cursors.
abbrev pub booked : Format (ℕ × (List (ℕ × Cell) × List ℕ))
booked = both number64 (both cells_listed cursors_listed)

-- An id, and a body; an id, and whether it is unlocked; an id, a port and a path.
abbrev pub made : Format (List ℕ × List ℕ)
made = both short long

abbrev pub moved : Format (List ℕ × Bool)
moved = both short flag

abbrev pub subscribed : Format (List ℕ × (ℕ × List ℕ))
subscribed = both short (both number16 short)

-- The bytes of its fields.
abbrev pub field_bytes : Item1 → List ℕ
field_bytes (Boot moment version inventory) = opened.bytes (version, inventory)
field_bytes (Booked moment tick cells cursors) = booked.bytes (tick, (cells, cursors))
field_bytes (JobMade moment id body) = made.bytes (id, body)
field_bytes (JobState moment id unlocked) = moved.bytes (id, unlocked)
field_bytes (JobDeleted moment id) = short.bytes id
field_bytes (MonitorMade moment id body) = made.bytes (id, body)
field_bytes (MonitorState moment id unlocked) = moved.bytes (id, unlocked)
field_bytes (MonitorDeleted moment id) = short.bytes id
field_bytes (Subscribed moment id port path) = subscribed.bytes (id, (port, path))
field_bytes (Unsubscribed moment id) = short.bytes id

-- All its bytes.
abbrev pub item_bytes : Item1 → List ℕ
item_bytes item = head.bytes (kind_of item, moment_of item) ++ field_bytes item

-- The fields fit their bytes.
abbrev pub FieldsFit : Item1 → Type 0
FieldsFit (Boot moment version inventory) = opened.Fits (version, inventory)
FieldsFit (Booked moment tick cells cursors) = booked.Fits (tick, (cells, cursors))
FieldsFit (JobMade moment id body) = made.Fits (id, body)
FieldsFit (JobState moment id unlocked) = moved.Fits (id, unlocked)
FieldsFit (JobDeleted moment id) = short.Fits id
FieldsFit (MonitorMade moment id body) = made.Fits (id, body)
FieldsFit (MonitorState moment id unlocked) = moved.Fits (id, unlocked)
FieldsFit (MonitorDeleted moment id) = short.Fits id
FieldsFit (Subscribed moment id port path) = subscribed.Fits (id, (port, path))
FieldsFit (Unsubscribed moment id) = short.Fits id

-- An item that has bytes: its moment is one, and its fields fit. So cells rise, none is without values, and the version is 1.
pub record IsItem (item : Item1) : Type 0 where
  pub moment : moment_of item ≤ LAST_MOMENT
  pub fields : FieldsFit item
