use Rattle.std.proofs.Common.{length}
use Rattle.pm_slow.proofs.file.+push_groups.Given as goal

abbrev pub decreases-push_groups : goal.decreases-push_groups
decreases-push_groups l = length l.measured.now
