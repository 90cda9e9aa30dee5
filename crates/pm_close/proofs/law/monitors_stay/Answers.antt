use Rattle.pm_close.proofs.MonitorLemmas.{monitors-stay}
use Rattle.pm_close.proofs.law.monitors_stay.Goals as goal

pub returns : goal.returns
returns c = monitors-stay
