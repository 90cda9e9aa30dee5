use Rattle.std.proofs.Common.{List, ◌∙◌, ap}
use Rattle.std.specs.List.{slice_get}
use Rattle.pm_inventory.specs.Slot.{Slot}
use Rattle.pm_events.proofs.SlotTableLemmas.{entry-slot_names}
use Rattle.pm_events.proofs.slot_table.SlotTable.names.Goals as goal

pub returns : goal.returns
returns c = λ s at.
    let view = ap (λ (l : List Slot). slice_get l c.args.slot) c.self.view_is in
    c.as_bytes.ensures ∙ entry-slot_names c.self.inside.entries.items c.args.slot c.index.result.now s c.self.invariant c.index.ensures (view ∙ at)
