use Rattle.pm_close.proofs.PlanLemmas.{monitors-open-stay}
use Rattle.pm_close.proofs.open_monitors_law.monitors_open_stay.Goals as goal

pub returns : goal.returns
returns c = monitors-open-stay
