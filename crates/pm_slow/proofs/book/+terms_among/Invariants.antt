use Rattle.std.proofs.Common.{length}
use Rattle.pm_slow.proofs.book.+terms_among.Given as goal

abbrev pub decreases-terms_among : goal.decreases-terms_among
decreases-terms_among l = length l.meanings.now
