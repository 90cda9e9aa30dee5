use Rattle.std.proofs.Common.{◌<◌, length, sym, ◌∙◌, ap, arith, Vec, Global}
use Rattle.pm_events.specs.declared.named_slot.NamedSlot.{NamedSlot}
use Rattle.pm_events.proofs.SlotTableLemmas.{object-listed, object-passed}
use Rattle.pm_events.proofs.slot_table.list_metric.Goals as goal
use Rattle.pm_events.proofs.slot_table.list_metric.Goals.{then-has_class+in_ok-entry_of+in_ok-push, else-has_class}

pub loop-object-preserved : goal.loop-object-preserved
loop-object-preserved c = λ slots lists.
    let tree = c.args.tree.now in
    let def = c.args.def.now in
    let i = c.loop-object.object in
    let within : i < length tree = omega (arith, c.loop-object-test.true, c.requires.all) in
    let so_far = c.loop-object.invariant slots lists in
    elim c.if-has_class.branch [
      | then-has_class+in_ok-entry_of+in_ok-push w ↦
          object-listed tree def i w.text.result.now c.loop-object.entries.items c.if-has_class.entries.items w.in_ok-entry_of.field-0 slots within (sym c.has_class.ensures ∙ w.if-has_class.true) w.text.ensures.value w.in_ok-entry_of.ensures.slot w.in_ok-entry_of.ensures.names
          (ap (λ (v : Vec NamedSlot Global). v.items) w.entries-is ∙ w.in_ok-push.ensures.items) so_far
      | else-has_class w ↦ object-passed tree def i c.if-has_class.entries.items slots within (sym c.has_class.ensures ∙ w.if-has_class.false) (rw w.entries-is so_far)
    ]
