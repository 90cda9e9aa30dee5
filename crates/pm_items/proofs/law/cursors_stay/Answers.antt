use Rattle.pm_items.proofs.LaterLemmas.{cursors_stay}
use Rattle.pm_items.proofs.law.cursors_stay.Goals as goal

pub returns : goal.returns
returns c = cursors_stay
