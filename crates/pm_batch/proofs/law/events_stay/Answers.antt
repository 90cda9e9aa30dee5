use Rattle.pm_batch.proofs.LawLemmas.{events-stay}
use Rattle.pm_batch.proofs.law.events_stay.Goals as goal

pub returns : goal.returns
returns c = events-stay
