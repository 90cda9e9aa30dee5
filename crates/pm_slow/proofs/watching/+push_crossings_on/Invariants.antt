use Rattle.std.proofs.Common.{length}
use Rattle.pm_slow.proofs.watching.+push_crossings_on.Given as goal

abbrev pub decreases-push_crossings_on : goal.decreases-push_crossings_on
decreases-push_crossings_on l = length l.objects.now
