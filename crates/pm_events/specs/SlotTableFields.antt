-- What the fields of a table of slots mean.
use Rattle.std.specs.Prelude.{◌≡◌, ◌+◌, ◌≤◌, List, length, map, take, drop}
use Rattle.pm_inventory.specs.declared.inventory.TheConstants.{MAX_SLOTS}
use Rattle.pm_inventory.specs.Slot.{Slot}
use Rattle.pm_inventory.specs.SlotNames.{slot_names, AreDistinct, AreWords}
use Rattle.pm_events.specs.declared.named_slot.NamedSlot.{NamedSlot}

-- The slot of an entry.
abbrev pub slot_of_named : NamedSlot → Slot
slot_of_named e = record { object = take e.object e.names; metric = drop (e.object + 1) e.names; reduce = e.reduce; registers_each = e.registers_each }

-- The entries are those of the slots, and have their names.
pub record Lists (entries : List NamedSlot) (slots : List Slot) : Type 0 where
  pub slots_are : map slot_of_named entries ≡ slots
  pub names_are : map (λ (e : NamedSlot). e.names) entries ≡ map slot_names slots

-- The entries of a table.
pub record IsTable (entries : List NamedSlot) : Type 0 where
  pub few : length entries ≤ MAX_SLOTS
  pub named : map (λ (e : NamedSlot). e.names) entries ≡ map slot_names (map slot_of_named entries)
  pub distinct : AreDistinct (map slot_of_named entries)
  pub words : AreWords (map slot_of_named entries)
