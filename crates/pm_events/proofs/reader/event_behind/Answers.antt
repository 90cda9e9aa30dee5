use Rattle.std.proofs.Common.{arith}
use Rattle.pm_events.proofs.ReaderLemmas.{names-read}
use Rattle.pm_events.proofs.reader.event_behind.Goals as goal

pub returns-clause-event : goal.returns-clause-event
returns-clause-event c = λ word is moment.
    let last = c.in_ok-last.last in
    names-read c.args.slots.now word c.args.words.now last.space c.args.moment last.value c.in_ok-slot.slot c.in_ok-slot.ensures.words is moment (omega (arith, c.if-words-gt2000.false)) c.in_ok-last.ensures.space.0 c.in_ok-last.ensures.space.1 c.in_ok-last.ensures.number c.in_ok-last.ensures.value c.if-last.false c.in_ok-slot.ensures.place c.in_ok-slot.ensures.pair
