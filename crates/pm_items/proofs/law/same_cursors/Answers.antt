use Rattle.pm_items.proofs.CursorLemmas.{same_cursors}
use Rattle.pm_items.proofs.law.same_cursors.Goals as goal

pub returns : goal.returns
returns c = same_cursors
