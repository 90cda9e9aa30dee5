use Rattle.pm_tally.proofs.CountingLemmas.{counts-same}
use Rattle.pm_tally.proofs.counting.Counting.add.Goals as goal

pub returns-clause-counted : goal.returns-clause-counted
returns-clause-counted c = λ slots events counts. counts-same slots events c.args.event.now c.count.ensures.count c.args.self.now c.count.new.self counts c.requires.later c.requires.same c.requires.room c.requires.slot c.count.ensures
