use Rattle.pm_close.proofs.StayLemmas.{marks-stay}
use Rattle.pm_close.proofs.law.marks_stay.Goals as goal

pub returns : goal.returns
returns c = marks-stay
