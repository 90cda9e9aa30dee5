use Rattle.pm_items.proofs.ToldLemmas.{items_tell}
use Rattle.pm_items.proofs.law.items_tell.Goals as goal

pub returns : goal.returns
returns c = items_tell
