-- The row of a stored tick has the cells of the tick of the last moment.
use Rattle.std.proofs.Common.{◌≡◌, ℕ, ◌<◌, Bool, false, List, [], length, map, get_or, Option, Some, None, refl, sym, ap, ◌∙◌, arith}
use Rattle.std.proofs.lemmas.List.{ext_get_or, get_or-map, length-map}
use Rattle.pm_base.specs.Moment.{tick_of}
use Rattle.pm_meas.specs.declared.cell.Cell.{Cell}
use Rattle.pm_meas.specs.Cell.{cell_of}
use Rattle.pm_inventory.specs.Inventory.{InventoryState, SlotKey, key_of, slot_number, slots}
use Rattle.pm_inventory.specs.Slot.{event_slots}
use Rattle.pm_inventory.specs.SlotNames.{AreDistinct}
use Rattle.pm_history.specs.History.{History, last_moment, IsHistory, is_cut}
use Rattle.pm_items.specs.Items.{open_values, open_cells}
use Rattle.pm_items.proofs.OpenLemmas.{open-is}
use Rattle.pm_store.specs.Stored.{cell_among}
use Rattle.pm_close.specs.Rows.{tick_cell}
use Rattle.pm_close.specs.Closer.{AreCurrent}
use Rattle.pm_replay.specs.Cells.{IsRow}
use Rattle.pm_replay.proofs.KeyLemmas.{number-at}

pub booked-current : (inventory : InventoryState) (h : History) (cells : List (ℕ × Cell)) (row : List Cell) → AreDistinct (event_slots inventory) → IsHistory h
    → IsRow (length (slots inventory)) cells row
    → ((object metric : ℕ) → open_cells h object metric ≡ cell_among cells (slot_number inventory object metric))
    → AreCurrent (slots inventory) h row
booked-current inventory h cells row distinct ih is open_are = λ whole.
    let keys = slots inventory in
    let tick = tick_of (last_moment h) in
    ext_get_or (cell_of []) row (map (tick_cell h tick) keys) (is.wide ∙ sym (length-map keys (tick_cell h tick)))
    (λ k lt.
    let within : k < length keys = omega (arith, lt, is.wide) in
    let key = get_or keys k (key_of 0 0) in
    let own : tick_cell h tick key ≡ open_cells h key.object key.metric = ap cell_of (open-is key.object key.metric h ih whole) in
    is.each k within
    ∙ (sym (open_are key.object key.metric ∙ ap (cell_among cells) (number-at inventory k (key_of 0 0) distinct within))
    ∙ (sym own ∙ sym (get_or-map (tick_cell h tick) keys k (key_of 0 0) (cell_of []) within))))

none-among : (place : Option ℕ) → cell_among [] place ≡ cell_of []
none-among None = refl
none-among (Some slot) = refl

-- Where the open tick has no registered event, a row without values has its cells.
pub silent-current : (inventory : InventoryState) (h : History) (row : List Cell) → AreDistinct (event_slots inventory) → IsHistory h
    → IsRow (length (slots inventory)) [] row → ((object metric : ℕ) → open_values object metric h ≡ [])
    → AreCurrent (slots inventory) h row
silent-current inventory h row distinct ih is silent =
    booked-current inventory h [] row distinct ih is
    (λ object metric. ap cell_of (silent object metric) ∙ sym (none-among (slot_number inventory object metric)))
