use Rattle.pm_notify.proofs.KeptLemmas.{kept-due}
use Rattle.pm_notify.proofs.law.kept_are_due.Goals as goal

pub returns : goal.returns
returns c = λ inventory h s stand moment least le. kept-due inventory h s stand moment least le
