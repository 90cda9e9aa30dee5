use Rattle.std.proofs.Common.{subst, sym}
use Rattle.pm_tally.specs.Finishing.{TakesLast, WritesLast}
use Rattle.pm_tally.specs.declared.tally_end.TallyEnd.{TallyEnd}
use Rattle.pm_tally.proofs.EndLemmas.{stop-last, takes-last, takes_stop}
use Rattle.pm_tally.proofs.TakingLemmas.{counts-ordered}
use Rattle.pm_tally.proofs.TextLemmas.{ordered-line}
use Rattle.pm_tally.proofs.tallying.finish_line.Goals as goal

pub returns-in-Err-clause-finished : goal.returns-in-Err-clause-finished
returns-in-Err-clause-finished g c = λ told events before counts written.
    let slots = c.args.slots.now in
    let line = c.args.line.now in
    subst (λ (e : TallyEnd). WritesLast slots events line before (g.K.Sink.written c.take_line.new.output) e) (sym c.end.ensures)
    (stop-last slots events line before (g.K.Sink.written c.take_line.new.output) c.args.place c.in-Err.stop (ordered-line slots events line (counts-ordered slots c.args.counting.now events counts))
    (takes_stop slots events line c.in-Err.stop c.take_line.new.counting (c.in-Err.ensures.taken events counts)) (c.in-Err.ensures.written told events before counts written))

pub returns-in-Err-clause-taken : goal.returns-in-Err-clause-taken
returns-in-Err-clause-taken g c = λ events counts.
    let slots = c.args.slots.now in
    let line = c.args.line.now in
    subst (λ (e : TallyEnd). TakesLast slots events line c.args.place e) (sym c.end.ensures)
    (takes-last slots events line c.args.place c.in-Err.stop (ordered-line slots events line (counts-ordered slots c.args.counting.now events counts))
    (takes_stop slots events line c.in-Err.stop c.take_line.new.counting (c.in-Err.ensures.taken events counts)))
