use Rattle.pm_close.proofs.StayLemmas.{reports-stay}
use Rattle.pm_close.proofs.law.reports_stay.Goals as goal

pub returns : goal.returns
returns c = reports-stay
