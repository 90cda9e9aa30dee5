-- Which items of a history stored items are.
use Rattle.std.specs.Prelude.{ℕ, ◌==◌, List, [], ◌∷◌, map, Option, Some, None, if◌then◌else◌}
use Rattle.pm_meas.specs.declared.cell.Cell.{Cell}
use Rattle.pm_meas.specs.Cell.{cell_of}
use Rattle.pm_history.specs.declared.entry.Entry.TheVariants as entry
use Rattle.pm_items.specs.Items.{Item, Opened, Booked, Changed}
use Rattle.pm_store.specs.declared.item.Item1.{Item1}
use Rattle.pm_store.specs.declared.item.Item1.TheVariants as stored

-- The cell of a slot among cells, and the cell of no value where it isn't there.
abbrev pub cell_at : List (ℕ × Cell) → ℕ → Cell
cell_at [] slot = cell_of []
cell_at (c ∷ cs) slot = if c.0 == slot then c.1 else cell_at cs slot

-- The same of what is a slot or none.
abbrev pub cell_among : List (ℕ × Cell) → Option ℕ → Cell
cell_among cells None = cell_of []
cell_among cells (Some slot) = cell_at cells slot

-- The item of a history, where the slots of objects and metrics are these. An inventory's text and cursors are no part of it.
abbrev pub item_in : (ℕ → ℕ → Option ℕ) → Item1 → Item
item_in slot_of (stored.Boot moment version inventory) = Opened moment
item_in slot_of (stored.Booked moment tick cells cursors) =
    Booked moment tick (λ object metric. cell_among cells (slot_of object metric))
item_in slot_of (stored.JobMade moment id body) = Changed (entry.JobMade moment id body)
item_in slot_of (stored.JobState moment id unlocked) = Changed (entry.JobState moment id unlocked)
item_in slot_of (stored.JobDeleted moment id) = Changed (entry.JobDeleted moment id)
item_in slot_of (stored.MonitorMade moment id body) = Changed (entry.MonitorMade moment id body)
item_in slot_of (stored.MonitorState moment id unlocked) = Changed (entry.MonitorState moment id unlocked)
item_in slot_of (stored.MonitorDeleted moment id) = Changed (entry.MonitorDeleted moment id)
item_in slot_of (stored.Subscribed moment id port path) = Changed (entry.Subscribed moment id port path)
item_in slot_of (stored.Unsubscribed moment id) = Changed (entry.Unsubscribed moment id)

-- The items of stored items.
abbrev pub items_in : (ℕ → ℕ → Option ℕ) → List Item1 → List Item
items_in slot_of items = map (item_in slot_of) items

-- The cursors of each Booked item among them.
abbrev pub cursors_in : List Item1 → List (List ℕ)
cursors_in [] = []
cursors_in (stored.Booked moment tick cells cursors ∷ items) = cursors ∷ cursors_in items
cursors_in (item ∷ items) = cursors_in items
