use Rattle.pm_inventory.specs.Slot.{event_slots}
use Rattle.pm_tally.proofs.EndLemmas.{none-read}
use Rattle.pm_tally.proofs.tallying.tally_inventory.Goals as goal

pub returns-in_default-clause-tallied : goal.returns-in_default-clause-tallied
returns-in_default-clause-tallied g c = λ told.
    none-read (event_slots c.args.read.now.inventory) c.args.feed.now.given c.args.feed.now.buffered (g.S.Source.left c.args.input.now) g.K.Sink.IsTold (g.K.Sink.written c.args.output.now) c.requires.ahead

pub returns-in_default-new-clause-tallied : goal.returns-in_default-new-clause-tallied
returns-in_default-new-clause-tallied g c = λ told.
    none-read (event_slots c.args.read.now.inventory) c.args.feed.now.given c.args.feed.now.buffered (g.S.Source.left c.args.input.now) g.K.Sink.IsTold (g.K.Sink.written c.args.output.now) c.requires.ahead
