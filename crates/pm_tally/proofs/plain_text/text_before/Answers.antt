use Rattle.std.proofs.Common.{List, sym, ◌∙◌, ap, arith}
use Rattle.pm_events.specs.Event.{events_in}
use Rattle.pm_events.specs.declared.event.Event.{Event}
use Rattle.pm_tally.proofs.PlainLemmas.{lines_before-none, text-next}
use Rattle.pm_tally.proofs.plain_text.text_before.Goals as goal

pub loop-of_tick-init : goal.loop-of_tick-init
loop-of_tick-init c = λ events is.
    c.new-text.ensures.items
    ∙ sym (lines_before-none c.args.slots.now events c.min-of_tick.result (λ k early. ap (λ (l : List Event). events_in l k) (sym is) ∙ c.first_tick.ensures k (omega (arith, early, c.min-of_tick.ensures))))

pub loop-of_tick-preserved : goal.loop-of_tick-preserved
loop-of_tick-preserved c = λ events is.
    text-next c.args.slots.now events c.loop-of_tick.of_tick c.loop-of_tick.text.items c.tick_text.new.text.items (c.loop-of_tick.invariant events is) (c.in_ok-tick_text.ensures events is)
