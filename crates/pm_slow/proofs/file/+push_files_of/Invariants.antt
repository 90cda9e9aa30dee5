use Rattle.std.proofs.Common.{length}
use Rattle.pm_slow.proofs.file.+push_files_of.Given as goal

abbrev pub decreases-push_files_of : goal.decreases-push_files_of
decreases-push_files_of l = length l.ids.now
