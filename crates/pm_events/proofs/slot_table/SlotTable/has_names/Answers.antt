use Rattle.std.proofs.Common.{◌<◌, List, length, sym, ◌∙◌, ap, arith}
use Rattle.pm_inventory.specs.Slot.{Slot}
use Rattle.pm_inventory.specs.SlotNames.{names_place}
use Rattle.pm_events.proofs.SlotTableLemmas.{entry-found, entry-names, place-within}
use Rattle.pm_events.proofs.slot_table.SlotTable.has_names.Goals as goal

pub returns-then-slot-len : goal.returns-then-slot-len
returns-then-slot-len c =
    let view = ap (λ (s : List Slot). names_place s c.args.names.now) c.self.view_is in
    (λ is. cc, λ place. absurd (omega (arith, c.if-slot-len.true, place-within c.self.inside.entries.items c.args.slot c.args.names.now c.self.invariant (view ∙ place))))

pub returns : goal.returns
returns c =
    let view = ap (λ (s : List Slot). names_place s c.args.names.now) c.self.view_is in
    let entries = c.self.inside.entries.items in
    let lt : c.args.slot < length entries = omega (arith, c.if-slot-len.false) in (
      λ is. sym view ∙ entry-found entries c.args.slot c.index.result.now c.args.names.now c.self.invariant lt c.index.ensures (sym c.as_bytes.ensures ∙ c.is_same.ensures.0 is),
      λ place. c.is_same.ensures.1 (c.as_bytes.ensures ∙ entry-names entries c.args.slot c.index.result.now c.args.names.now c.self.invariant c.index.ensures (view ∙ place)),
    )
