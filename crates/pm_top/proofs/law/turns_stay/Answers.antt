use Rattle.pm_top.proofs.LawLemmas.{turns-stay}
use Rattle.pm_top.proofs.law.turns_stay.Goals as goal

pub returns : goal.returns
returns c = turns-stay
