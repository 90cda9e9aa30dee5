use Rattle.pm_items.proofs.UnstoredLemmas.{unstored_changes_nothing}
use Rattle.pm_items.proofs.law.unstored_changes_nothing.Goals as goal

pub returns : goal.returns
returns c = unstored_changes_nothing
