use Rattle.pm_outside.proofs.FeedLemmas.{left_to-read}
use Rattle.pm_outside.proofs.feed.Feed.refill.Goals as goal

pub returns-in-Ok-clause-stays : goal.returns-in-Ok-clause-stays
returns-in-Ok-clause-stays g c = λ told.
    let f = c.self.inside in
    rw (← c.self.view_is) (left_to-read f.buffer.items c.move_to_front.new.buffer.items c.read_after.new.buffer.items _ (g.S.Source.left c.read_after.new.source) f.start f.end c.in-Ok.count c.move_to_front.ensures.moved c.read_after.ensures.front (c.in-Ok.ensures.told told).0)
