use Rattle.std.proofs.Common.{◌++◌, ◌∷◌, ℕ, List, length, refl, sym, ◌∙◌, ap}
use Rattle.pm_inventory.specs.Slot.{Slot, registers_each_of}
use Rattle.pm_inventory.specs.SlotNames.{slot_names}
use Rattle.pm_events.proofs.SlotTableLemmas.{slot-joined}
use Rattle.pm_events.proofs.slot_table.entry_of.Goals as goal

pub returns-clause-slot : goal.returns-clause-slot
returns-clause-slot c =
    let s : Slot = record { object = c.args.object.now; metric = c.args.def.now.name; reduce = c.args.def.now.reduce; registers_each = registers_each_of c.args.def.now.kind } in
    slot-joined c.in_ok-joined.field-0 (length c.args.object.now) c.args.def.now.reduce c.registers_each.result s (c.in_ok-joined.ensures ∙ ap (λ (m : List ℕ). c.args.object.now ++ 32 ∷ m) c.as_bytes.ensures.value) refl refl c.registers_each.ensures.value

pub returns-clause-names : goal.returns-clause-names
returns-clause-names c =
    let s : Slot = record { object = c.args.object.now; metric = c.args.def.now.name; reduce = c.args.def.now.reduce; registers_each = registers_each_of c.args.def.now.kind } in
    let names = c.in_ok-joined.ensures ∙ ap (λ (m : List ℕ). c.args.object.now ++ 32 ∷ m) c.as_bytes.ensures.value in
    names ∙ ap slot_names (sym (slot-joined c.in_ok-joined.field-0 (length c.args.object.now) c.args.def.now.reduce c.registers_each.result s names refl refl c.registers_each.ensures.value))
