use Rattle.std.proofs.Common.{length}
use Rattle.pm_meas.proofs.plain.+greatest_of.Given as goal

abbrev pub decreases-greatest_of : goal.decreases-greatest_of
decreases-greatest_of l = length l.values.now
