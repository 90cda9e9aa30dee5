use Rattle.std.proofs.Common.{◌≡◌, ◌<◌, ◌++◌, ℕ, List, [], length, get_or, sym, ◌∙◌, ap, arith}
use Rattle.pm_meas.specs.Cell.{cell_of}
use Rattle.pm_meas.specs.declared.kind.Reduce.TheVariants.{Sum}
use Rattle.pm_inventory.specs.Slot.{Slot}
use Rattle.pm_events.specs.Event.{values_in}
use Rattle.pm_tally.specs.Tally.{tick_lines, slot_line}
use Rattle.pm_tally.proofs.CountingLemmas.{slice_get-at}
use Rattle.pm_tally.proofs.LinesLemmas.{lines-next, lines-all}
use Rattle.pm_tally.proofs.lines.tick_text.Goals as goal

pub loop-slot-preserved : goal.loop-slot-preserved
loop-slot-preserved c = λ events counts.
    let slots = c.args.slots.now in
    let i = c.loop-slot.slot in
    let tick = c.tick-of_tick.result in
    let d : Slot = record { object = []; metric = []; reduce = Sum; registers_each = 1 } in
    let within : i < length slots = omega (arith, c.loop-slot-test.true, c.len-slot-end.ensures.value) in
    let keeps = counts.tick.slot i c.index.result.now within in
    let values = values_in slots events i tick in
    let cell : c.index.result.now.cell ≡ cell_of values =
    ap (λ count. count.cell) c.index.ensures ∙ keeps.cell ∙ ap (λ (t : ℕ). cell_of (values_in slots events i t)) (sym c.tick-of_tick.ensures) in
    c.in_ok-cell_text.ensures (get_or slots i d) values (slice_get-at slots i d within) cell
    ∙ ap (λ (l : List ℕ). l ++ slot_line tick (get_or slots i d) values) (c.loop-slot.invariant events counts)
    ∙ sym (lines-next slots events tick i d within)

pub returns : goal.returns
returns c = λ events counts.
    c.loop-slot.invariant events counts
    ∙ lines-all c.args.slots.now events c.tick-of_tick.result c.loop-slot.slot (omega (arith, c.loop-slot-test.false, c.len-slot-end.ensures.value, c.loop-slot.auto.slot-end))
    ∙ ap (tick_lines c.args.slots.now events) c.tick-of_tick.ensures
