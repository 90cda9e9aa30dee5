use Rattle.pm_items.proofs.KeptLemmas.{last_item}
use Rattle.pm_items.proofs.law.last_item.Goals as goal

pub returns : goal.returns
returns c = last_item
