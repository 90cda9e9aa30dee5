use Rattle.std.proofs.Common.{take, refl, ◌∙◌, ap}
use Rattle.pm_events.specs.Event.{read_event}
use Rattle.pm_events.proofs.ReaderLemmas.{in-front}
use Rattle.pm_events.proofs.reader.Reader.usual.Goals as goal

pub returns-clause-event : goal.returns-clause-event
returns-clause-event c =
    let text = c.args.self.now.text in
    let same = c.if-not-begins.ensures.same refl in
    ap (read_event c.args.self.now.slots.now) (in-front text c.args.line.now same c.args.self.now.spaced)
    ∙ c.in_ok-event.ensures.event (take 10 text) c.args.self.now.word c.args.self.now.value
