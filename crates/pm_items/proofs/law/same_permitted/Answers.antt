use Rattle.pm_items.proofs.PermittedLemmas.{same_permitted}
use Rattle.pm_items.proofs.law.same_permitted.Goals as goal

pub returns : goal.returns
returns c = same_permitted
