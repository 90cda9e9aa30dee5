use Rattle.std.proofs.Common.{◌≡◌, ◌<◌, ◌++◌, ℕ, List, [], length, map, get_or, take, sym, ◌∙◌, ap, arith, append_assoc}
use Rattle.std.proofs.Math.Dec.{eqb}
use Rattle.std.proofs.lemmas.List.{length-map}
use Rattle.std.specs.List.{enumerate_from}
use Rattle.pm_meas.specs.declared.kind.Reduce.TheVariants.{Sum}
use Rattle.pm_inventory.specs.Slot.{Slot}
use Rattle.pm_events.specs.Event.{events_in, events_at, values_in}
use Rattle.pm_events.specs.declared.event.Event.{Event}
use Rattle.pm_events.proofs.EventLemmas.{filter_shorter}
use Rattle.pm_tally.specs.Tally.{slot_line}
use Rattle.pm_tally.proofs.CountingLemmas.{slice_get-at}
use Rattle.pm_tally.proofs.LinesLemmas.{lines_of_slots, lines-next, lines-all}
use Rattle.pm_tally.proofs.plain_text.tick_text.Goals as goal

pub slot_text-requires-clause-few : goal.slot_text-requires-clause-few
slot_text-requires-clause-few c =
    let found = c.args.found.now in
    let at = events_at found c.loop-slot.slot c.args.of_tick in
    omega (arith, ap length c.deref.ensures.value, ap length c.in_ok-values.ensures, length-map at (λ (e : Event). e.value), filter_shorter (λ (e : Event). eqb e.slot c.loop-slot.slot) (events_in found c.args.of_tick), c.requires.few c.args.of_tick)

pub loop-slot-preserved : goal.loop-slot-preserved
loop-slot-preserved c = λ events is.
    let slots = c.args.slots.now in
    let i = c.loop-slot.slot in
    let tick = c.args.of_tick in
    let d : Slot = record { object = []; metric = []; reduce = Sum; registers_each = 1 } in
    let within : i < length slots = omega (arith, c.loop-slot-test.true, c.len-slot-end.ensures.value) in
    let values : c.deref.result.now ≡ values_in slots events i tick =
    c.deref.ensures.value ∙ c.in_ok-values.ensures ∙ ap (λ (l : List Event). map (λ e. e.value) (events_at l i tick)) is in
    let before = lines_of_slots slots events tick (take i (enumerate_from 0 slots)) in
    c.in_ok-slot_text.ensures (get_or slots i d) (slice_get-at slots i d within)
    ∙ ap (λ (l : List ℕ). c.loop-slot.text.items ++ slot_line tick (get_or slots i d) l) values
    ∙ ap (λ (l : List ℕ). l ++ slot_line tick (get_or slots i d) (values_in slots events i tick)) (c.loop-slot.invariant events is)
    ∙ append_assoc c.args.text.now.items before (slot_line tick (get_or slots i d) (values_in slots events i tick))
    ∙ ap (λ (l : List ℕ). c.args.text.now.items ++ l) (sym (lines-next slots events tick i d within))

pub returns : goal.returns
returns c = λ events is.
    c.loop-slot.invariant events is
    ∙ ap (λ (l : List ℕ). c.args.text.now.items ++ l) (lines-all c.args.slots.now events c.args.of_tick c.loop-slot.slot (omega (arith, c.loop-slot-test.false, c.len-slot-end.ensures.value, c.loop-slot.auto.slot-end)))
