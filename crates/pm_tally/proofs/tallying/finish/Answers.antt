use Rattle.std.proofs.Common.{Err, ap}
use Rattle.pm_tally.specs.declared.lines.Fault.{Fault}
use Rattle.pm_tally.proofs.TakingLemmas.{written-all, written-end, some-all}
use Rattle.pm_tally.proofs.tallying.finish.Goals as goal

pub returns-in-Ok-clause-finished : goal.returns-in-Ok-clause-finished
returns-in-Ok-clause-finished g c = λ told events before counts written.
    written-all c.args.slots.now c.args.counting.now events before (g.K.Sink.written c.args.output.now) _ counts (c.in-Ok.ensures.written told events counts) written

pub returns-in-Err-Write-clause-finished : goal.returns-in-Err-Write-clause-finished
returns-in-Err-Write-clause-finished g c = λ told events before counts written.
    written-end c.args.slots.now c.args.counting.now events before (g.K.Sink.written c.args.output.now) _ counts (c.in-Err-Write.ensures.written told events counts) written

pub returns-in-Err-Memory-clause-finished : goal.returns-in-Err-Memory-clause-finished
returns-in-Err-Memory-clause-finished g c = λ told events before counts written.
    written-end c.args.slots.now c.args.counting.now events before (g.K.Sink.written c.args.output.now) _ counts (c.in-Err-Memory.ensures.written told events counts) written

pub returns-in-Err-Write-clause-some : goal.returns-in-Err-Write-clause-some
returns-in-Err-Write-clause-some g c = λ events counts.
    some-all c.args.slots.now c.args.counting.now events counts (c.in-Err-Write.ensures.some events counts (ap (λ (f : Fault). Err f) c.in-Err-Write.field-0-is))
