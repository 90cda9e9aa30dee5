use Rattle.std.proofs.Common.{◌+◌, ◌++◌, ◌∷◌, length, arith, length-append, ap, refl, sym}
use Rattle.std.proofs.lemmas.List.{length-take-le}
use Rattle.pm_events.proofs.EventLineLemmas.{are_names, names_in_line}
use Rattle.pm_events.proofs.BatchLineLemmas.{four_words}
use Rattle.pm_events.proofs.batch_line.read_batch_line.Goals as goal

pub returns-in-Some-clause-value : goal.returns-in-Some-clause-value
returns-in-Some-clause-value c = four_words c.args.line.now c.in_ok-object.object.now c.in_ok-object.behind.now c.in_ok-metric.metric.now c.in_ok-metric.value.now c.in-Some.field-0.0.now c.in-Some.field-0.1.now c.in_ok-object.ensures c.in_ok-metric.ensures c.in-Some.ensures

pub slice_bounds-names-end : goal.slice_bounds-names-end
slice_bounds-names-end c =
    let object = c.in_ok-object.object.now in
    let metric = c.in_ok-metric.metric.now in
    let whole = names_in_line c.args.line.now object c.in_ok-object.behind.now metric c.in_ok-metric.value.now c.in_ok-object.ensures c.in_ok-metric.ensures in
    sym (length-take-le (length object + 1 + length metric) c.args.line.now
    (omega (arith, ap length whole, length-append object (32 ∷ metric), length-append (object ++ 32 ∷ metric) (32 ∷ c.in_ok-metric.value.now))))

pub value_of-requires : goal.value_of-requires
value_of-requires c = are_names c.args.line.now c.in_ok-object.object.now c.in_ok-object.behind.now c.in_ok-metric.metric.now c.in_ok-metric.value.now (length c.in_ok-object.object.now + 1 + length c.in_ok-metric.metric.now) c.in_ok-object.ensures c.in_ok-metric.ensures refl
