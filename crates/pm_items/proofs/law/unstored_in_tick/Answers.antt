use Rattle.pm_items.proofs.UnstoredLemmas.{unstored_in_tick}
use Rattle.pm_items.proofs.law.unstored_in_tick.Goals as goal

pub returns : goal.returns
returns c = unstored_in_tick
