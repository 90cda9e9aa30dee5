use Rattle.std.proofs.Common.{length}
use Rattle.pm_batch.proofs.ReadingLemmas.{HasRead}
use Rattle.pm_batch.proofs.batch.read_hits.Given as goal

abbrev pub invariant-loop-line : goal.invariant-loop-line
invariant-loop-line l = HasRead l.slots l.body l.hits.items l.rest

abbrev pub decreases-loop-line : goal.decreases-loop-line
decreases-loop-line l = length l.rest
