use Rattle.pm_close.proofs.CloserLemmas.{closer-stays}
use Rattle.pm_close.proofs.law.closer_stays.Goals as goal

pub returns : goal.returns
returns c = closer-stays
