use Rattle.pm_items.proofs.KeptLemmas.{kept_begins}
use Rattle.pm_items.proofs.law.kept_begins.Goals as goal

pub returns : goal.returns
returns c = kept_begins
