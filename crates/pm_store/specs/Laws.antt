-- What holds of all stored items.
use Rattle.std.specs.Prelude.{ℕ, ◌≡◌, List, Option, length, count_by}
use Rattle.pm_items.specs.Cursors.{is_booked}
use Rattle.pm_store.specs.declared.item.Item1.{Item1}
use Rattle.pm_store.specs.Item.{item_bytes, IsItem}
use Rattle.pm_store.specs.Stored.{items_in, cursors_in}

-- Two items with the same bytes are one.
abbrev pub OneItem : Type 0
OneItem = (a b : Item1) → IsItem a → IsItem b → item_bytes a ≡ item_bytes b → a ≡ b

-- Stored items have a list of cursors for each Booked among the items that they are.
abbrev pub CursorsOfEach : Type 0
CursorsOfEach =
    (slot_of : ℕ → ℕ → Option ℕ) (items : List Item1) → length (cursors_in items) ≡ count_by is_booked (items_in slot_of items)
