use Rattle.pm_items.proofs.AlikeLemmas.{same_items}
use Rattle.pm_items.proofs.law.same_items.Goals as goal

pub returns : goal.returns
returns c = same_items
