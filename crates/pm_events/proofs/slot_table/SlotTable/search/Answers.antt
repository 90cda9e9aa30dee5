use Rattle.std.proofs.Common.{◌≡◌, ℕ, Option, Some, None, refl, arith}
use Rattle.std.specs.Str.{bytes_eq}
use Rattle.pm_inventory.specs.Slot.{Slot}
use Rattle.pm_inventory.specs.SlotNames.{slot_names, names_place}
use Rattle.pm_inventory.proofs.SlotLemmas.{position-within}
use Rattle.pm_events.proofs.slot_table.SlotTable.search.Goals as goal

never : (place : Option ℕ) → ((k : ℕ) → place ≡ Some k → ⊥) → None ≡ place
never None none = refl
never (Some k) none = absurd (none k refl)

pub returns : goal.returns
returns c =
    let slots = c.args.self.now in
    let names = c.args.names.now in
    never (names_place slots names) (λ k place. c.loop-slot.invariant k (omega (arith, position-within (λ (s : Slot). bytes_eq (slot_names s) names) 0 k slots place, c.loop-slot-test.false, c.len-slot-end.ensures.value)) place)
