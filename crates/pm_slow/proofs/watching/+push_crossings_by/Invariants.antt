use Rattle.std.proofs.Common.{length}
use Rattle.pm_slow.proofs.watching.+push_crossings_by.Given as goal

abbrev pub decreases-push_crossings_by : goal.decreases-push_crossings_by
decreases-push_crossings_by l = length l.watched.now
