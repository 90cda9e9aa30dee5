use Rattle.std.proofs.Common.{map, take}
use Rattle.pm_tally.proofs.PlainLemmas.{SoFar}
use Rattle.pm_tally.proofs.plain_events.good_events.Given as goal

abbrev pub invariant-loop-at : goal.invariant-loop-at
invariant-loop-at l = SoFar l.slots (map (λ line. line.now) (take l.at l.lines)) l.events.items l.registered.items
