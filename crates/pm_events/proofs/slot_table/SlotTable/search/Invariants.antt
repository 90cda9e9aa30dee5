use Rattle.std.proofs.Common.{◌≡◌, ◌<◌, ℕ, Some}
use Rattle.pm_inventory.specs.SlotNames.{names_place}
use Rattle.pm_events.proofs.slot_table.SlotTable.search.Given as goal

abbrev pub invariant-loop-slot : goal.invariant-loop-slot
invariant-loop-slot l = (k : ℕ) → k < l.slot → names_place l.self l.names ≡ Some k → ⊥
