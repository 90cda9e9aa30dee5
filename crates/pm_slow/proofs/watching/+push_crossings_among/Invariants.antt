use Rattle.std.proofs.Common.{length}
use Rattle.pm_slow.proofs.watching.+push_crossings_among.Given as goal

abbrev pub decreases-push_crossings_among : goal.decreases-push_crossings_among
decreases-push_crossings_among l = length l.ids.now
