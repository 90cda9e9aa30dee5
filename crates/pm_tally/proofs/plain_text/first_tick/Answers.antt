use Rattle.pm_tally.proofs.PlainLemmas.{none_before-next}
use Rattle.pm_tally.proofs.plain_text.first_tick.Goals as goal

pub loop-event-preserved : goal.loop-event-preserved
loop-event-preserved c = none_before-next c.args.events.now c.loop-event.event-index c.loop-event.first c.tick.result c.min-first.result _ c.loop-event-test.true c.tick.ensures c.min-first.ensures c.loop-event.invariant
