use Rattle.std.proofs.Common.{length}
use Rattle.pm_slow.proofs.file.+push_results.Given as goal

abbrev pub decreases-push_results : goal.decreases-push_results
decreases-push_results l = length l.metrics.now
