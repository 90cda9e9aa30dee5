use Rattle.std.proofs.Common.{◌+◌, ◌++◌, ◌∷◌, length, arith, length-append, ap, refl, sym}
use Rattle.std.proofs.lemmas.List.{length-take-le}
use Rattle.pm_events.proofs.EventLineLemmas.{five_words, are_names, names_in_line}
use Rattle.pm_events.proofs.event_line.read_event_line.Goals as goal

pub returns-in-Some-clause-event : goal.returns-in-Some-clause-event
returns-in-Some-clause-event c = five_words c.args.line.now c.in_ok-moment.moment.now c.in_ok-moment.rest.now c.in_ok-object.object.now c.in_ok-object.behind.now c.in_ok-metric.metric.now c.in_ok-metric.value.now c.in-Some.field-0.0.now c.in-Some.field-0.1.now c.in_ok-moment.ensures c.in_ok-object.ensures c.in_ok-metric.ensures c.in-Some.ensures

pub slice_bounds-names-end : goal.slice_bounds-names-end
slice_bounds-names-end c =
    let object = c.in_ok-object.object.now in
    let metric = c.in_ok-metric.metric.now in
    let whole = names_in_line c.in_ok-moment.rest.now object c.in_ok-object.behind.now metric c.in_ok-metric.value.now c.in_ok-object.ensures c.in_ok-metric.ensures in
    sym (length-take-le (length object + 1 + length metric) c.in_ok-moment.rest.now
    (omega (arith, ap length whole, length-append object (32 ∷ metric), length-append (object ++ 32 ∷ metric) (32 ∷ c.in_ok-metric.value.now))))

pub event_of-requires : goal.event_of-requires
event_of-requires c = are_names c.in_ok-moment.rest.now c.in_ok-object.object.now c.in_ok-object.behind.now c.in_ok-metric.metric.now c.in_ok-metric.value.now (length c.in_ok-object.object.now + 1 + length c.in_ok-metric.metric.now) c.in_ok-object.ensures c.in_ok-metric.ensures refl
