use Rattle.pm_items.proofs.AllPermittedLemmas.{same_all_permitted}
use Rattle.pm_items.proofs.law.same_all_permitted.Goals as goal

pub returns : goal.returns
returns c = same_all_permitted
