use Rattle.pm_notice.proofs.StandLemmas.{others_stay}
use Rattle.pm_notice.proofs.law.others_stay.Goals as goal

pub returns : goal.returns
returns c = others_stay
