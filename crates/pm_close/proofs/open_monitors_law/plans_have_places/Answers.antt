use Rattle.pm_close.proofs.PlanLemmas.{has-place}
use Rattle.pm_close.proofs.open_monitors_law.plans_have_places.Goals as goal

pub returns : goal.returns
returns c = has-place
