use Rattle.pm_close.proofs.KnownLemmas.{knows-now, knows-boot}
use Rattle.pm_close.proofs.law.cells_known.Goals as goal

pub returns : goal.returns
returns c = record { now = knows-now; boot = knows-boot }
