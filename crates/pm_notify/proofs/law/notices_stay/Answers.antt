use Rattle.pm_notify.proofs.KeptLemmas.{stand-same}
use Rattle.pm_notify.proofs.law.notices_stay.Goals as goal

pub returns : goal.returns
returns c = λ inventory h e s le same stand. stand-same inventory h e s le same stand
