use Rattle.pm_close.proofs.StayLemmas.{cells-stay}
use Rattle.pm_close.proofs.law.cells_stay.Goals as goal

pub returns : goal.returns
returns c = cells-stay
