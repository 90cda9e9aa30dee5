use Rattle.std.proofs.Common.{sym}
use Rattle.pm_tally.proofs.CountingLemmas.{not_refused}
use Rattle.pm_tally.proofs.counting.Counting.refusal.Goals as goal

pub returns-clause-order : goal.returns-clause-order
returns-clause-order c = λ slots events counts. sym (not_refused slots c.args.self.now events c.args.event.now counts c.if-event-self.false (c.is_full.ensures.room c.if-is_full.false))
