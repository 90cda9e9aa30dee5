use Rattle.pm_items.proofs.SoFarLemmas.{same_last_cut}
use Rattle.pm_items.proofs.law.same_last_cut.Goals as goal

pub returns : goal.returns
returns c = same_last_cut
