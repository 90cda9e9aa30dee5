use Rattle.pm_ready.proofs.KeptLemmas.{stand-same}
use Rattle.pm_ready.proofs.law.files_stay.Goals as goal

pub returns : goal.returns
returns c = λ inventory h e files le same stand. stand-same inventory h e files le same stand
