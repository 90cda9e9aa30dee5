use Rattle.pm_batch.proofs.LawLemmas.{stands-stay}
use Rattle.pm_batch.proofs.law.tick_stays.Goals as goal

pub returns : goal.returns
returns c = stands-stay
